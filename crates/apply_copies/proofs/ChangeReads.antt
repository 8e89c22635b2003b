-- How often change rows are read: proofs.
use Rattle.std.proofs.Common.{◌≡◌, sym, subst, arith}
use Rattle.site_store.specs.Words.{Kept}
use Rattle.site_store.specs.declared.sites.Sites.{Sites}
use Rattle.repl_model.specs.Words.{Op, Counts}
use Rattle.repl_types.specs.declared.change_row.Op.TheVariants.{I, U, D}
use Rattle.target_steps.specs.Taking.{ReadsCounted}
use Rattle.apply_copies.specs.Changing.{counted, ReadsOnce}

module _ {K : Type 0} (kept : K → Kept) (s0 s1 s2 : Sites K) where
  -- one change row more was read and counted
  pub counted_next : (op : Op) (counts more : Counts) → more ≡ counted op counts → ReadsCounted 0 kept s0 s1 counts → ReadsOnce kept s1 s2 → ReadsCounted 0 kept s0 s2 more
  counted_next op counts more is so_far once = subst (ReadsCounted 0 kept s0 s2) (sym is) (by_op op)
    where
      by_op : (op : Op) → ReadsCounted 0 kept s0 s2 (counted op counts)
      by_op I = λ short s. omega (arith, short, so_far (omega (arith, short)) s, once s)
      by_op U = λ short s. omega (arith, short, so_far (omega (arith, short)) s, once s)
      by_op D = λ short s. omega (arith, short, so_far (omega (arith, short)) s, once s)

  -- no further one was found
  pub counted_all : (counts : Counts) → ReadsCounted 0 kept s0 s1 counts → ReadsOnce kept s1 s2 → ReadsCounted 1 kept s0 s2 counts
  counted_all counts so_far once = λ short s. omega (arith, so_far short s, once s)
