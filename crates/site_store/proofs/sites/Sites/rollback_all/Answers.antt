use Rattle.std.proofs.Common.{ℕ, List, get_or, ap, ◌∙◌, arith, None}
use Rattle.std.proofs.lemmas.List.{with_items_is}
use Rattle.site_store.specs.declared.site.Site.{Site}
use Rattle.site_store.specs.Servers.{names_of, held_of, work_of, faults_of, reads_of, writes_of}
use Rattle.site_store.proofs.sites.Sites.rollback_all.Goals as goal

pub returns : goal.returns
returns g c =
    let kept = g.K.Keeper.kept in
    let e = c.close_each.ensures in
    let was = c.deref_mut.ensures.value in
    let now = with_items_is c.args.self.now.list c.close_each.new.list (c.close_each.auto.list ∙ c.deref_mut.ensures.len) in record {
      passes = record {
        names = ap names_of now ∙ e.names ∙ ap names_of was;
        faults = λ s. omega (arith, e.faults s, ap (λ (xs : List (Site g.row.K.Denot)). get_or (faults_of kept xs) s 0) was, ap (λ (xs : List (Site g.row.K.Denot)). get_or (faults_of kept xs) s 0) now);
        reads = λ a s lt. omega (arith, ap (λ (l : List ℕ). get_or l s 0) (ap (reads_of kept a) now ∙ e.reads a ∙ ap (reads_of kept a) was));
        writes = λ a s lt. omega (arith, ap (λ (l : List ℕ). get_or l s 0) (ap (writes_of kept a) now ∙ e.writes a ∙ ap (writes_of kept a) was));
        within = record {
          reads = λ s a. omega (arith, ap (λ (l : List ℕ). get_or l s 0) (ap (reads_of kept a) now ∙ e.reads a ∙ ap (reads_of kept a) was));
          writes = λ s a. omega (arith, ap (λ (l : List ℕ). get_or l s 0) (ap (writes_of kept a) now ∙ e.writes a ∙ ap (writes_of kept a) was));
        };
      };
      held = ap (held_of kept) now ∙ e.held ∙ ap (held_of kept) was;
      closed = λ s. ap (λ (xs : List (Site g.row.K.Denot)). get_or (work_of kept xs) s None) now ∙ e.closed s;
    }
