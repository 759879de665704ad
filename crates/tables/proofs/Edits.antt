-- What is found by a key after an edit, and keys of which no two are equal.
use Rattle.std.proofs.Common.{◌≡◌, ℕ, suc, not, ◌+◌, inl, inr, ◌<◌, Bool, true, false, cond, ltb, List, [], ◌∷◌, ◌++◌, length, get_or, drop, set, is_some, Some, None, Option, refl, sym, subst, ap, ◌∙◌, ◌≢◌, arith}
use Rattle.std.specs.List.{find, position, position_or_len, remove}
use Rattle.std.proofs.lemmas.Bool.{both_ways, cases_lt, cond_both, false_from_ne_true, ltb-false}
use Rattle.std.proofs.lemmas.Bool.Decides.{nat_tests}
use Rattle.std.proofs.lemmas.List.{get_or-drop, length-drop, set-get_or}
use Rattle.std.proofs.lemmas.List.Edits.{length-remove, get_or-remove_below, get_or-remove_above}
use Rattle.std.proofs.lemmas.List.Folds.{find_at, find-append, find-set}
use Rattle.std.proofs.lemmas.List.Quantifiers.{all_pairs_push, all_pairs_remove, position-Some}
use Rattle.std.proofs.lemmas.List.Sums.{prefix_len_passes}
use Rattle.std.proofs.lemmas.Option.{cond_some, slice_get_past}
use Rattle.std.proofs.lemmas.Slice.Eq.{bytes_eq-Decides}
use Rattle.tables.specs.Keyed.{Apart, add_in, appended, has_key, looked_up, out_at, put_at, put_in, take_out}

module _ {X : Type 0} (p : X → Bool) where
  -- no element passes
  abbrev Lacks : List X → Type 0
  Lacks xs = (j : ℕ) (d : X) → j < length xs → p (get_or xs j d) ≡ false

  lacks_find : (xs : List X) → Lacks xs → find p xs ≡ None
  lacks_find [] l = refl
  lacks_find (x ∷ xs) l =
      let e : p x ≡ false = l 0 x (omega arith) in
      rw e (lacks_find xs (λ j d h. l (suc j) d (omega arith)))

  lacks_drop : (xs : List X) → Lacks xs → Lacks (drop 1 xs)
  lacks_drop xs l j d h =
      let n = length-drop 1 xs in
      ap p (get_or-drop 1 xs j d) ∙ l (1 + j) d (omega arith)

  lacks_position : (xs : List X) → position p xs ≡ None → Lacks xs
  lacks_position xs e j d h = grind (arith, prefix_len_passes (λ x. not (p x)) xs j d)

  -- what holds of an edit at the place of an element, by the two cases
  at_place : (xs : List X) (P : Option ℕ → Type 0) → ((i : ℕ) → position p xs ≡ Some i → P (Some i)) → (Lacks xs → P None) → P (position p xs)
  at_place xs P some none =
      (elim (position p xs) as (λ o. position p xs ≡ o → P o) [
        | Some i ↦ some i
        | None ↦ λ e. none (lacks_position xs e)
      ]) refl

  found_appended : (x : X) (xs : List X) → p x ≡ true → Lacks xs → find p (appended x xs) ≡ Some x
  found_appended x xs e l =
      grind (arith, find-append, lacks_find xs l, lacks_find (drop 1 xs) (lacks_drop xs l))

  -- an element that was put is the one that is found
  pub found_put : (x : X) (xs : List X) → p x ≡ true → find p (put_at (position p xs) x xs) ≡ Some x
  found_put x xs e =
      at_place xs (λ o. find p (put_at o x xs) ≡ Some x)
      (λ i q. find-set p xs i x (sym (cond_some _ _ _ q).1) (position-Some p xs i x q).0 e)
      (found_appended x xs e)

  -- an element that was added is there
  pub there_added : (x : X) (xs : List X) → p x ≡ true → is_some (position p (cond (is_some (position p xs)) xs (appended x xs))) ≡ true
  there_added x xs e =
      let ys = appended x xs in
      at_place xs (λ o. is_some (position p (cond (is_some o) xs ys)) ≡ true) (λ i q. ap is_some q)
      (λ l. grind (arith, nat_tests, found_appended x xs e l, find_at p ys, slice_get_past ys (position_or_len p ys)))

-- keys on a list are their own codes
abbrev pub itself : List ℕ → List ℕ
itself k = k

module _ (k : List ℕ) where
  abbrev is_key : List ℕ → Bool
  is_key = has_key itself k

  is : (j : List ℕ) → is_key j ≡ true → j ≡ k
  is j e = (bytes_eq-Decides j k).0 e

  differs : (j : List ℕ) → is_key j ≡ false → j ≢ k
  differs j e q = both_ways (is_key j) e ((bytes_eq-Decides j k).1 q)

  apart_push : (ks : List (List ℕ)) → Lacks is_key ks → Apart ks → Apart (ks ++ k ∷ [])
  apart_push ks l a = all_pairs_push ◌≢◌ ks k a (λ j d h. differs (get_or ks j d) (l j d h))

  apart_appended : (ks : List (List ℕ)) → Apart ks → Lacks is_key ks → Apart (appended k ks)
  apart_appended ks a l =
      cond_both (ltb (length ks) 16) ks (drop 1 ks) (λ js. Apart (js ++ k ∷ [])) (λ e. apart_push ks l a)
      (λ e. apart_push (drop 1 ks) (lacks_drop is_key ks l) (all_pairs_remove ◌≢◌ ks 0 (omega (arith, ltb-false (length ks) 16 e)) a))

  pub apart_put : (ks : List (List ℕ)) → Apart ks → Apart (put_in itself k ks)
  apart_put ks a =
      at_place is_key ks (λ o. Apart (put_at o k ks))
      (λ i q. let e = is (get_or ks i []) (position-Some is_key ks i [] q).1 in subst Apart (sym (ap (set ks i) (sym e) ∙ set-get_or ks i [])) a)
      (apart_appended ks a)

  pub apart_add : (ks : List (List ℕ)) → Apart ks → Apart (add_in itself k ks)
  apart_add ks a =
      at_place is_key ks (λ o. Apart (cond (is_some o) ks (appended k ks))) (λ i q. a) (apart_appended ks a)

  pub apart_out : (ks : List (List ℕ)) → Apart ks → Apart (take_out itself k ks)
  apart_out ks a =
      at_place is_key ks (λ o. Apart (out_at o ks))
      (λ i q. all_pairs_remove ◌≢◌ ks i (position-Some is_key ks i [] q).0 a) (λ l. a)

  -- a key is gone once it is taken out
  pub gone : (ks : List (List ℕ)) → Apart ks → looked_up itself k (take_out itself k ks) ≡ None
  gone ks a =
      at_place is_key ks (λ o. looked_up itself k (out_at o ks) ≡ None)
      (λ i q. lacks_find is_key (remove ks i) (λ j d h.
      let at = position-Some is_key ks i d q in
      let size = length-remove ks i at.0 in
      elim (cases_lt j i) [
        | inl b ↦ ap is_key (get_or-remove_below ks i d j b at.0) ∙ at.2 j b
        | inr b ↦
            false_from_ne_true _ (λ e. a i (j + 1) d (omega arith) (omega arith)
            (is (get_or ks i d) at.1 ∙ sym (sym (get_or-remove_above ks i d j b at.0) ∙ is (get_or (remove ks i) j d) e)))
      ])) (lacks_find is_key ks)
