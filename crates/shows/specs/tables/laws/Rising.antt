-- Rows keep the order of their keys when their values are made into others.
use Rattle.std.proofs.Common.{◌≡◌, List, [], ◌∷◌, map, Less}
use Rattle.world_store.specs.Words.{key_spelling, IsRising}
use Rattle.repl_model.specs.Words.{bytes_cmp, Values, each_image}

-- rows rise if those from which their values were made do
pub images_rise : {X Y : Type 0} (f : X → Y) (rows : List (Values × X)) → IsRising key_spelling rows → IsRising key_spelling (map (λ (r : Values × X). (r.0, f r.1)) rows)
images_rise f [] rise = tt
images_rise {X} {Y} f (r ∷ rs) rise = (each_image (λ (q : Values × Y). bytes_cmp (key_spelling r.0) (key_spelling q.0) ≡ Less) (λ (q : Values × X). (q.0, f q.1)) rs rise.0, images_rise f rs rise.1)
