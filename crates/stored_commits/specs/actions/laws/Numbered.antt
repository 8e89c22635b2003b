-- Rows under the numbers of the things that they are made of.
use Rattle.std.proofs.Common.{◌≡◌, ℕ, ◌+◌, ◌^◌, List, [], ◌∷◌, map, refl, nat_cmp}
use Rattle.std.specs.List.{enumerate_from}
use Rattle.world_store.specs.Words.{Is32, Is64, b32, b64, whole_order, order32, order64, SpellsInOrder}

-- numbers of four bytes are in order
pub small_in_order : SpellsInOrder b32 (2 ^ 32)
small_in_order a b la lb = whole_order Is32 b32 nat_cmp order32 a b la lb

-- so are numbers of eight bytes
pub large_in_order : SpellsInOrder b64 (2 ^ 64)
large_in_order a b la lb = whole_order Is64 b64 nat_cmp order64 a b la lb

-- images of numbered things are numbered images
pub numbered_images : {X R : Type 0} (row : X → R) (b : ℕ) (xs : List X) → map (λ s. (s.0, row s.1)) (enumerate_from b xs) ≡ enumerate_from b (map row xs)
numbered_images row b [] = refl
numbered_images row b (x ∷ xs) = λ i. (b, row x) ∷ numbered_images row (b + 1) xs i
