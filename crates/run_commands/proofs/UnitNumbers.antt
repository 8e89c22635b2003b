-- The number of the server of a name.
use Rattle.std.proofs.Common.{◌≡◌, ◌≢◌, ◌∙◌, ℕ, ◌<◌, List, [], length, cond, Bool, true, false, refl, sym, ap, subst, arith, Option, Some, None, nat_lt, slice_index_or, bytes_eq, lt-ltb}
use Rattle.std.proofs.lemmas.Bool.Decides.{nat_tests}
use Rattle.std.proofs.lemmas.List.Sums.{position_or_len_is}
use Rattle.world_store.specs.Words.{Stands}
use Rattle.site_store.specs.Words.{Kept, AllClosed, HasNone, IsPlace, names, held, work}
use Rattle.site_store.specs.declared.sites.Sites.{Sites}
use Rattle.repl_model.specs.Words.{empty_server, World, server_in, name_itself, same_name}
use Rattle.stored_defs.specs.laws.Standing.{name_at_place, same_count}
use Rattle.run_commands.specs.capture.CaptureEvents.{is_named, number_named}

-- a length isn't
not_below : (n : ℕ) → nat_lt n n ≡ false
not_below n = grind (arith, nat_tests)

-- the number by the count of the servers before the first of a name
abbrev by_count : World → ℕ → Option ℕ
by_count w n = cond (nat_lt n (length w)) (Some n) None

module _ {K : Type 0} (kept : K → Kept) (s0 : Sites K) (closed : AllClosed (work kept s0)) (w : World) (stands : Stands (names s0) (held kept s0) w) (name : List ℕ) where
  -- the name at a place is that of the world's server there
  named_at : (n : ℕ) → slice_index_or (names s0) n [] ≡ (server_in w n).name
  named_at n = ap (λ (l : List (List ℕ)). slice_index_or l n []) (sym stands.named) ∙ name_at_place w n

  -- a server at a place with another name hasn't this one
  other_name : (n : ℕ) → slice_index_or (names s0) n [] ≢ name → is_named name (server_in w n) ≡ false
  other_name n other = pick (bytes_eq name (server_in w n).name) refl
    where
      pick : (b : Bool) → bytes_eq name (server_in w n).name ≡ b → b ≡ false
      pick false is = refl
      pick true is = absurd (other (named_at n ∙ sym (same_name name (server_in w n).name is)))

  -- the server at the place of a name has that number
  pub number_at_place : (n : ℕ) → IsPlace (names s0) name n → number_named name w ≡ Some n
  number_at_place n place =
      let within : n < length w = omega (arith, same_count kept s0 closed w stands, place.within) in
      let before = λ (k : ℕ) (lt : k < n). other_name k (λ same. s0.servers.apart k n lt place.within (same ∙ sym place.is)) in
      let here : is_named name (server_in w n) ≡ true = subst (λ (l : List ℕ). bytes_eq name l ≡ true) (sym place.is ∙ named_at n) (name_itself name) in
      ap (by_count w) (position_or_len_is (is_named name) w n (empty_server []) (omega arith) before (λ lt. here))
      ∙ ap (λ (b : Bool). cond b (Some n) None) (lt-ltb n (length w) within)

  -- if no server has a name, it has no number
  pub no_number : HasNone (names s0) name → number_named name w ≡ None
  no_number none =
      let before = λ (k : ℕ) (lt : k < length w). other_name k (none k (omega (arith, same_count kept s0 closed w stands, lt))) in
      ap (by_count w) (position_or_len_is (is_named name) w (length w) (empty_server []) (omega arith) before (λ lt. absurd (omega arith)))
      ∙ ap (λ (b : Bool). cond b (Some (length w)) None) (not_below (length w))
