-- A server that is seen to have what a sound world calls for: proofs.
use Rattle.std.proofs.Common.{◌≡◌, ℕ, [], sym, subst, Option, Some, IfSome}
use Rattle.world_store.specs.Words.{IsHead, Head, head_of}
use Rattle.site_store.specs.Words.{Contents, Kept, Blames, IsUndamaged, IsNoDamage, sees, no_damage}
use Rattle.site_store.specs.declared.sites.Sites.{Sites}
use Rattle.repl_model.specs.Words.{Fault, empty_server, Server, World, server_in, In}
use Rattle.stored_defs.specs.laws.Standing.{in_at}
use Rattle.source_log.specs.Rules.{all_rules, EndIs, ShowsDamage}
use Rattle.source_log.specs.Scanning.{IsSeenAs}
use Rattle.source_log.specs.Storing.{StoresWhole}
use Rattle.source_log.specs.laws.Whole.{held_whole}
use Rattle.source_log.proofs.HeldTables.{whole_end}
use Rattle.source_log.proofs.Undamaged.{none_shown}

module _ {K : Type 0} (kept : K → Kept) (sites : Sites K) (place : ℕ) (w : World) (seen : IsSeenAs kept sites place w) where
  -- the server of the world
  abbrev server : Server
  server = server_in w place

  -- it is one of them
  member : In server w
  member = in_at w place (empty_server []) seen.within

  -- what it has are all tables of its log
  whole : StoresWhole server seen.reveals.0
  whole = held_whole w server seen.reveals.0 seen.sound member seen.reveals.2

  -- the end that is read is that of its log
  pub end_seen : (head : Head) → IsHead head → IfSome (sees kept sites place) (EndIs head) → head ≡ head_of server
  end_seen head is read =
      whole_end server seen.reveals.0 whole head is (subst (λ (o : Option Contents). IfSome o (EndIs head)) seen.reveals.1 read)

  -- no damage is reported of it
  pub none_seen : (s1 : Sites K) (e : Fault) → Blames kept sites s1 (ShowsDamage kept sites place) e → IsNoDamage e
  none_seen s1 e blames = no_damage kept sites s1 (λ s. s ≡ place) all_rules e
      (λ s is. subst (λ (k : ℕ). (c : Contents) × (sees kept sites k ≡ Some c) × IsUndamaged all_rules c) (sym is) (seen.reveals.0, seen.reveals.1, none_shown server seen.reveals.0 whole))
      blames
