-- Lines of `status`, of a server and of a set, worked out by hand.
use Rattle.std.specs.Prelude.{◌≡◌, true, false, codes, [], ◌∷◌, ◌++◌, Some, None}
use Rattle.std.proofs.Common.{refl}
use Rattle.std.specs.Fmt.{digits}
use Rattle.repl_types.specs.Sequence.{hex_digits}
use Rattle.reply_text.specs.declared.reply.Reply.TheVariants.{Server, ReadOnlySet, ReplicaSet}
use Rattle.reply_text.specs.Replies.{reply_line}
use Rattle.reply_text.specs.Status.{registration_line, source_set_line}
use Rattle.text_tests.specs.Lines.{HaveLines, q_s, r_b}

-- ---- a server

pub a_server_has_its_points :
    reply_line (Server (record { last = 9; commit = 8; time = 160; captured = 5; restart = 3; floor = 2 }))
    ≡ codes "ok last 00000000000000090000 commit 00000000000000080000 time 160 captured "
    ++ codes "00000000000000050000 restart 00000000000000030000 floor 00000000000000020000\n"
unfolding digits hex_digits
a_server_has_its_points = refl

pub a_server_has_registrations : HaveLines (registration_line (codes "orders")) (
    (record { active = true; start = 2; floor = 0 }, codes "reg orders active 00000000000000020000 00000000000000000000\n")
    ∷ (record { active = false; start = 2; floor = 6 }, codes "reg orders inactive 00000000000000060000\n")
    ∷ [])
unfolding hex_digits
a_server_has_registrations = refl

pub a_server_has_sets :
    source_set_line q_s (record { mark = 8; signal = 2 })
    ≡ codes "set q/s mark 00000000000000080000 signal 00000000000000020000\n"
unfolding hex_digits
a_server_has_sets = refl

-- ---- a set

pub a_read_only_set_has_its_points :
    reply_line (ReadOnlySet (record { set = q_s; synchpoint = Some 8; base = Some 2; flag = false; entries = 3; mark = 5 }))
    ≡ codes "ok set q/s synchpoint 00000000000000080000 base 00000000000000020000 flag 0 "
    ++ codes "trail 3 mark 00000000000000050000\n"
unfolding digits hex_digits
a_read_only_set_has_its_points = refl

pub a_read_only_set_has_no_points_before_its_first_refresh :
    reply_line (ReadOnlySet (record { set = q_s; synchpoint = None; base = None; flag = true; entries = 0; mark = 0 }))
    ≡ codes "ok set q/s synchpoint none base none flag 1 trail 0 mark 00000000000000000000\n"
unfolding digits hex_digits
a_read_only_set_has_no_points_before_its_first_refresh = refl

pub a_replica_set_has_its_points :
    reply_line (ReplicaSet (record { set = r_b; m = Some 7; f = Some 19; t = 12; d = 6; entries = 2; mark = 5 }))
    ≡ codes "ok set r/b m 00000000000000070000 f 00000000000000130000 t 000000000000000c0000 "
    ++ codes "d 00000000000000060000 trail 2 mark 00000000000000050000\n"
unfolding digits hex_digits
a_replica_set_has_its_points = refl

pub a_replica_set_has_no_points_before_its_load :
    reply_line (ReplicaSet (record { set = r_b; m = None; f = None; t = 0; d = 0; entries = 0; mark = 0 }))
    ≡ codes "ok set r/b m none f none t 00000000000000000000 d 00000000000000000000 trail 0 "
    ++ codes "mark 00000000000000000000\n"
unfolding digits hex_digits
a_replica_set_has_no_points_before_its_load = refl
