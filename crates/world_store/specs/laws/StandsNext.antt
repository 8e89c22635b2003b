-- What servers stand for after one of them was changed.
use Rattle.std.proofs.Common.{◌≡◌, ℕ, zero, suc, Bool, true, false, cond, not, List, [], ◌∷◌, map, set, inl, inr, refl, sym, ap, subst, ◌∙◌, if◌then◌else◌, Option, Some, slice_get, bytes_eq}
use Rattle.std.specs.List.{AllZip, list_any}
use Rattle.std.proofs.lemmas.Bool.{and_parts}
use Rattle.std.proofs.lemmas.Option.{none-some, same_Some}
use Rattle.rows_in_order.specs.Contents.{Contents}
use Rattle.repl_model.specs.Words.{with_server, all_differ, IsSound, Server, World, at_place_in, In, first_alone, same_name, name_itself}
use Rattle.world_store.specs.Stands.{Holds, Reveals, Stands}

-- names of servers that are alike
abbrev same_names : Server → Server → Bool
same_names a b = bytes_eq a.name b.name

module _ (name : List ℕ) (f : Server → Server) where
  -- a server, which is made another if it has the name
  abbrev made : Server → Server
  made server = if bytes_eq name server.name then f server else server

  -- if it keeps its name, each server does
  names_stay : ((s : Server) → (f s).name ≡ s.name) → (w : World) → map (λ server. server.name) (with_server name f w) ≡ map (λ server. server.name) w
  names_stay keeps [] = refl
  names_stay keeps (s ∷ ss) = λ i. pick (bytes_eq name s.name) i ∷ names_stay keeps ss i
    where
      pick : (b : Bool) → (cond b (f s) s).name ≡ s.name
      pick true = keeps s
      pick false = refl

  module _ (R S : Server → Option Contents → Type 0) where
    -- a server of another name is as it was
    other_made : (s : Server) (told : Option Contents) → bytes_eq name s.name ≡ false → S s told → S (made s) told
    other_made s told differs h = subst (λ (b : Bool). S (cond b (f s) s) told) (sym differs) h

    -- what holds of servers, none of which has the name
    others_made : (ss : World) (held : List (Option Contents)) → ((s : Server) → In s ss → bytes_eq name s.name ≡ false) → ((s : Server) (told : Option Contents) → In s ss → R s told → S s told) → AllZip R ss held → AllZip S (map made ss) held
    others_made [] [] differ step all = tt
    others_made [] (h ∷ hs) differ step all = absurd all
    others_made (s ∷ ss) [] differ step all = absurd all
    others_made (s ∷ ss) (h ∷ hs) differ step all = (other_made s h (differ s (inl refl)) (step s h (inl refl) all.0), others_made ss hs (λ t i. differ t (inr i)) (λ t told i. step t told (inr i)) all.1)

    -- what holds of servers, one of which has the name
    one_made : (ss : World) (held : List (Option Contents)) (p : ℕ) (server : Server) (told : Option Contents) → slice_get ss p ≡ Some server → server.name ≡ name → all_differ same_names ss ≡ true → ((s : Server) (had : Option Contents) → In s ss → bytes_eq name s.name ≡ false → R s had → S s had) → S (f server) told → AllZip R ss held → AllZip S (map made ss) (set held p told)
    one_made [] held p server told at named differ step here all = absurd (none-some server at)
    one_made (s ∷ ss) [] p server told at named differ step here all = absurd all
    one_made (s ∷ ss) (h ∷ hs) zero server told at named differ step here all =
        let same : s ≡ server = same_Some s server at in
        let own : s.name ≡ name = ap (λ (x : Server). x.name) same ∙ named in
        let other : (t : Server) → In t ss → bytes_eq name t.name ≡ false = λ t i. differs t (bytes_eq name t.name) refl (λ e. first_alone same_names s ss differ t i (ap (λ (n : List ℕ). bytes_eq n t.name) own ∙ e)) in (
          subst (λ (b : Bool). S (cond b (f s) s) told) (sym (ap (bytes_eq name) own ∙ name_itself name)) (subst (λ (x : Server). S (f x) told) (sym same) here),
          others_made ss hs other (λ t had i. step t had (inr i) (other t i)) all.1,
        )
      where
        differs : (t : Server) (b : Bool) → bytes_eq name t.name ≡ b → (bytes_eq name t.name ≡ true → ⊥) → b ≡ false
        differs t true e never = absurd (never e)
        differs t false e never = refl
    one_made (s ∷ ss) (h ∷ hs) (suc p) server told at named differ step here all =
        let other : bytes_eq name s.name ≡ false = differs (bytes_eq name s.name) refl in (
          other_made s h other (step s h (inl refl) other all.0),
          one_made ss hs p server told at named (and_parts (not (list_any (same_names s) ss)) (all_differ same_names ss) differ).1 (λ t had i. step t had (inr i)) here all.1,
        )
      where
        differs : (b : Bool) → bytes_eq name s.name ≡ b → b ≡ false
        differs true e = absurd (first_alone same_names s ss differ server (at_place_in ss p server at) (ap (λ (n : List ℕ). bytes_eq s.name n) (named ∙ same_name name s.name e) ∙ name_itself s.name))
        differs false e = refl

-- One server is made another of the same name, and holds what the world after it calls for; and so do the others with
-- what they held. Then all stand for that world, if it is sound.
pub stands_with_server : (names : List (List ℕ)) (held : List (Option Contents)) (w : World) (p : ℕ) (server : Server) (f : Server → Server) (d : Contents) → Stands names held w → slice_get w p ≡ Some server → ((s : Server) → (f s).name ≡ s.name) → IsSound (with_server server.name f w) → Holds (with_server server.name f w) (f server) d
    → ((other : Server) (c : Contents) → In other w → bytes_eq server.name other.name ≡ false → Holds w other c → Holds (with_server server.name f w) other c) → Stands names (set held p (Some d)) (with_server server.name f w)
stands_with_server names held w p server f d stands at keeps sound here others = record {
  sound = sound;
  named = names_stay server.name f keeps w ∙ stands.named;
  servers = one_made server.name f (Reveals w) (Reveals (with_server server.name f w)) w held p server (Some d) at refl stands.sound.definitions.names (λ s told i differs r. (r.0, r.1, others s r.0 i differs r.2)) (d, refl, here) stands.servers;
}
