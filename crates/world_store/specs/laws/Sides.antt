-- What sets copy from in two worlds, as their trails read it.
use Rattle.std.proofs.Common.{◌≡◌, ℕ, ◌≤◌, List, [], length, Option, Some, None, IfSome, refl, sym, ap, subst, ◌∙◌, arith}
use Rattle.std.specs.List.{AllByRecursion}
use Rattle.std.specs.Option.{option_map, option_map_or}
use Rattle.repl_model.specs.Words.{LogRecord, Member, SetDef, SourceTable, Trail, synchpoint, base_of, TargetSide, Server, World, lengthened, EndsWithin, all_of}
use Rattle.world_store.specs.TargetRows.{source_of, source_time}

-- ---- sources

-- A source in two worlds: its log is longer in the second, and a trail ends within the first, at no lower point than
-- its last refresh.
pub record IsLonger (trail : Trail) (before after : Option SourceTable) : Type 0 where
  pub more : List LogRecord
  pub is : after ≡ option_map (lengthened more) before
  pub within : IfSome before (λ source. EndsWithin (length source.log) trail)
  pub rises : base_of trail ≤ synchpoint trail

-- A source in two worlds, as a trail reads it.
pub data SourceStays (trail : Trail) (before after : Option SourceTable) : Type 0 where
  -- nothing is read of it
  is_unread : trail ≡ [] → SourceStays trail before after
  -- it is the same
  is_same : after ≡ before → SourceStays trail before after
  -- its log is longer
  is_longer : IsLonger trail before after → SourceStays trail before after

-- the source of a member of a set at its target in two worlds, as the set's trail reads it
abbrev pub MemberStays : World → World → TargetSide → Member → Type 0
MemberStays before after side member = SourceStays side.trail (source_of before side.def member) (source_of after side.def member)

-- A set at its target in two worlds: the time at its point is the same, and the sources of its members stay.
pub record SideStays (before after : World) (side : TargetSide) : Type 0 where
  pub time : source_time after side.def (synchpoint side.trail) ≡ source_time before side.def (synchpoint side.trail)
  pub sources : AllByRecursion (MemberStays before after side) side.def.members

-- the sets whose target a server is stay in worlds in which all sources and times are the same
pub same_sides : (before after : World) → ((def : SetDef) (member : Member) → source_of after def member ≡ source_of before def member) → ((def : SetDef) (point : ℕ) → source_time after def point ≡ source_time before def point) → (server : Server) → AllByRecursion (SideStays before after) server.target_sets
same_sides before after source time server = all_of (SideStays before after) server.target_sets (λ side. record {
  time = time side.def (synchpoint side.trail);
  sources = all_of (MemberStays before after side) side.def.members (λ member. is_same (source side.def member));
})

-- ---- what is made of a source

-- What a trail reads of a source: further records leave it if the trail ends within the log, and without a trail it is
-- nothing if the log has no records.
pub record TrailReads {Z : Type 0} (trail : Trail) (made : SourceTable → Z) (nothing : Z) : Type 0 where
  pub stays : (more : List LogRecord) (source : SourceTable) → EndsWithin (length source.log) trail → base_of trail ≤ synchpoint trail → made (lengthened more source) ≡ made source
  pub begins : trail ≡ [] → (source : SourceTable) → made (record source { log = [] }) ≡ nothing

-- what is made of that is read too
pub made_from : {Y Z : Type 0} {trail : Trail} {made : SourceTable → Z} {nothing : Z} (f : Z → Y) → TrailReads trail made nothing → TrailReads trail (λ source. f (made source)) (f nothing)
made_from f reads = record {
  stays = λ more source within rises. ap f (reads.stays more source within rises);
  begins = λ empty source. ap f (reads.begins empty source);
}

-- so is what asks for no source
pub made_alone : {Y : Type 0} {trail : Trail} (y : Y) → TrailReads trail (λ source. y) y
made_alone y = record { stays = λ more source within rises. refl; begins = λ empty source. refl }

module _ {Z : Type 0} {trail : Trail} {made : SourceTable → Z} {nothing : Z} (reads : TrailReads trail made nothing) where
  -- without a trail it is nothing
  none : trail ≡ [] → (o : Option SourceTable) → option_map_or made o nothing ≡ nothing
  none empty None = refl
  none empty (Some source) =
      reads.stays source.log (record source { log = [] }) (subst (EndsWithin 0) (sym empty) tt) (subst (λ (t : Trail). base_of t ≤ synchpoint t) (sym empty) (omega arith))
      ∙ reads.begins empty source

  -- it stays if the source does
  pub made_alike : {before after : Option SourceTable} → SourceStays trail before after → option_map_or made after nothing ≡ option_map_or made before nothing
  made_alike {before} {after} (is_unread empty) = none empty after ∙ sym (none empty before)
  made_alike (is_same e) = ap (λ (o : Option SourceTable). option_map_or made o nothing) e
  made_alike {before} (is_longer l) = ap (λ (o : Option SourceTable). option_map_or made o nothing) l.is ∙ at before l.within
    where
      at : (o : Option SourceTable) → IfSome o (λ source. EndsWithin (length source.log) trail) → option_map_or made (option_map (lengthened l.more) o) nothing ≡ option_map_or made o nothing
      at None within = refl
      at (Some source) within = reads.stays l.more source within l.rises
