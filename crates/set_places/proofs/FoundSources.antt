-- What is found of the source of a set whose row stands at its target.
use Rattle.std.proofs.Common.{◌≡◌, ℕ, ◌<◌, [], length, refl, sym, ap, subst, ◌∙◌, arith, Option, Some, None, IfSome, slice_get, option_and_then, option_map}
use Rattle.std.proofs.lemmas.Option.{slice_get-get_or}
use Rattle.world_store.specs.Words.{set_spelling, table_from_rows, source_set_rows, target_set_rows, Stands}
use Rattle.site_store.specs.Words.{Contents, Table, Kept, RowIs, AllClosed, HasNone, IsPlace, names, held, work, sees, if_seen}
use Rattle.site_store.specs.declared.sites.Sites.{Sites}
use Rattle.repl_model.specs.Words.{SetId, source_set_spelling, IsSourceSet, target_set_spelling, SourceSet, TargetSet, empty_server, World, source_side, server_in}
use Rattle.repl_types.specs.declared.area.Area.TheVariants as areas
use Rattle.stored_defs.specs.laws.Standing.{same_count, keeps_at, seen_at, holds_defs, server_at_place, no_server}
use Rattle.set_places.specs.Finding.{IsFoundFrom}
use Rattle.set_places.specs.Places.{HasSourceRow}
use Rattle.set_places.specs.laws.SetRows.{source_row_is, no_source_row}

-- the server at a place
pub stands_there : (w : World) (n : ℕ) → n < length w → slice_get w n ≡ Some (server_in w n)
stands_there w n lt = slice_get-get_or w n (empty_server []) lt

module _ {K : Type 0} (kept : K → Kept) (s0 : Sites K) (closed : AllClosed (work kept s0)) where
  -- ---- what is read is what the world calls for

  module _ (w : World) (stands : Stands (names s0) (held kept s0) w) (n : ℕ) (lt : n < length (names s0)) (id : SetId) where
    -- what stands under a set's name at its source
    source_read : (row : Option SourceSet) → IfSome (sees kept s0 n) (RowIs source_set_spelling areas.Defs 2 (set_spelling id) row) → table_from_rows set_spelling source_set_spelling (source_set_rows (server_in w n)) (set_spelling id) ≡ option_map source_set_spelling row
    source_read row saw =
        let r = seen_at kept s0 closed w stands n lt in
        ap (λ (u : Table). u (set_spelling id)) (sym (holds_defs w (server_in w n) r.0 r.2 2)) ∙ subst (λ (o : Option Contents). IfSome o (RowIs source_set_spelling areas.Defs 2 (set_spelling id) row)) r.1 saw

    -- and at its target
    pub target_read : (row : Option TargetSet) → IfSome (sees kept s0 n) (RowIs target_set_spelling areas.Defs 3 (set_spelling id) row) → table_from_rows set_spelling target_set_spelling (target_set_rows (server_in w n)) (set_spelling id) ≡ option_map target_set_spelling row
    target_read row saw =
        let r = seen_at kept s0 closed w stands n lt in
        ap (λ (u : Table). u (set_spelling id)) (sym (holds_defs w (server_in w n) r.0 r.2 3)) ∙ subst (λ (o : Option Contents). IfSome o (RowIs target_set_spelling areas.Defs 3 (set_spelling id) row)) r.1 saw

  -- ---- what is found

  module _ (target : ℕ) (row : TargetSet) where
    -- no server has the source's name
    pub no_server_found : HasNone (names s0) row.def.source → IsFoundFrom kept s0 target row None
    no_server_found none = record { from = tt; worlds = λ w stands. ap (option_and_then (source_side row.def.id)) (no_server kept s0 closed w stands row.def.source none) }

    -- the source has no row of the set
    pub no_row_found : (n : ℕ) → IsPlace (names s0) row.def.source n → IfSome (sees kept s0 n) (RowIs source_set_spelling areas.Defs 2 (set_spelling row.def.id) None) → IsFoundFrom kept s0 target row None
    no_row_found n place saw = record {
      from = tt;
      worlds = λ w stands. ap (option_and_then (source_side row.def.id)) (server_at_place kept s0 closed w stands row.def.source n s0.servers.apart place) ∙ no_source_row w (server_in w n) (keeps_at kept s0 closed w stands n place.within) row.def.id (source_read w stands n place.within row.def.id None saw);
    }

    -- it has one
    pub row_found : (n : ℕ) (at_source : SourceSet) → IsSourceSet at_source → IsPlace (names s0) row.def.source n → IfSome (sees kept s0 n) (RowIs source_set_spelling areas.Defs 2 (set_spelling row.def.id) (Some at_source)) → IsFoundFrom kept s0 target row (Some (record { source = n; at_source = at_source; target = target; at_target = row }))
    row_found n at_source fits place saw = record {
      from = (refl, refl, record { within = place.within; row = if_seen (sees kept s0 n) (RowIs source_set_spelling areas.Defs 2 (set_spelling row.def.id) (Some at_source)) (HasSourceRow at_source) (λ c has. (set_spelling row.def.id, has)) saw; fits = fits });
      worlds = λ w stands.
          let server = server_in w n in
          let r = source_row_is w server (keeps_at kept s0 closed w stands n place.within) row.def.id at_source fits (source_read w stands n place.within row.def.id (Some at_source) saw) in (
            server,
            r.0,
            record {
              named = server_at_place kept s0 closed w stands row.def.source n s0.servers.apart place;
              place = stands_there w n (omega (arith, place.within, same_count kept s0 closed w stands));
              found = r.1;
              number = r.2;
              def = r.3;
            },
          );
    }
