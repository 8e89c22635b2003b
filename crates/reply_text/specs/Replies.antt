-- The lines that close replies.
use Rattle.std.specs.Prelude.{ℕ, Bool, true, false, codes, List, [], ◌∷◌, decimal}
use Rattle.reply_text.specs.declared.reply.Reply.{Reply}
use Rattle.reply_text.specs.declared.reply.Reply.TheVariants as replies
use Rattle.reply_text.specs.Lines.{whole_line, position_text, point_text, set_text, bytes_text}

-- 1 or 0
abbrev pub flag_text : Bool → List ℕ
flag_text true = codes "1"
flag_text false = codes "0"

-- the line that closes a reply
abbrev pub reply_line : Reply → List ℕ
reply_line (replies.Loaded tables registrations sets) = whole_line (codes "ok loaded tables" ∷ decimal tables ∷ codes "registrations" ∷ decimal registrations ∷ codes "sets" ∷ decimal sets ∷ [])
reply_line (replies.Fed records last) = whole_line (codes "ok fed" ∷ decimal records ∷ codes "last" ∷ position_text last ∷ [])
reply_line (replies.Captured captured units rows) = whole_line (codes "ok captured" ∷ position_text captured ∷ codes "units" ∷ decimal units ∷ codes "rows" ∷ decimal rows ∷ [])
reply_line (replies.Pruned change_rows units) = whole_line (codes "ok pruned cd" ∷ decimal change_rows ∷ codes "uow" ∷ decimal units ∷ [])
reply_line (replies.Applied steps) = whole_line (codes "ok apply steps" ∷ decimal steps ∷ [])
reply_line replies.Flagged = whole_line (codes "ok flagged" ∷ [])
reply_line (replies.Stopped seq) = whole_line (codes "ok stop" ∷ position_text seq ∷ [])
reply_line (replies.Generated units changes last) = whole_line (codes "ok generated units" ∷ decimal units ∷ codes "changes" ∷ decimal changes ∷ codes "last" ∷ position_text last ∷ [])
reply_line (replies.Rounds sets accepted rejected applied) = whole_line (codes "ok rounds sets" ∷ decimal sets ∷ codes "accepted" ∷ decimal accepted ∷ codes "rejected" ∷ decimal rejected ∷ codes "applied" ∷ decimal applied ∷ [])
reply_line replies.AuditSame = whole_line (codes "ok audit same" ∷ [])
reply_line (replies.AuditDiffers table key) = whole_line (codes "ok audit differs" ∷ table ∷ bytes_text key ∷ [])
reply_line (replies.Shown rows) = whole_line (codes "ok rows" ∷ decimal rows ∷ [])
reply_line (replies.Server s) = whole_line (codes "ok last" ∷ position_text s.last ∷ codes "commit" ∷ position_text s.commit ∷ codes "time" ∷ decimal s.time ∷ codes "captured" ∷ position_text s.captured ∷ codes "restart" ∷ position_text s.restart ∷ codes "floor" ∷ position_text s.floor ∷ [])
reply_line (replies.ReadOnlySet s) = whole_line (codes "ok set" ∷ set_text s.set ∷ codes "synchpoint" ∷ point_text s.synchpoint ∷ codes "base" ∷ point_text s.base ∷ codes "flag" ∷ flag_text s.flag ∷ codes "trail" ∷ decimal s.entries ∷ codes "mark" ∷ position_text s.mark ∷ [])
reply_line (replies.ReplicaSet s) = whole_line (codes "ok set" ∷ set_text s.set ∷ codes "m" ∷ point_text s.m ∷ codes "f" ∷ point_text s.f ∷ codes "t" ∷ position_text s.t ∷ codes "d" ∷ position_text s.d ∷ codes "trail" ∷ decimal s.entries ∷ codes "mark" ∷ position_text s.mark ∷ [])
