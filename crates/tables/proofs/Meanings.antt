-- What the rows of a list mean after an edit, where `f` says what a row means and `key` what its key is.
use Rattle.std.proofs.Common.{◌≡◌, ◌≢◌, ℕ, ◌<◌, true, List, [], ◌∷◌, ◌++◌, map, length, get_or, Some, None, Option, refl, sym, ap, ◌∙◌}
use Rattle.std.proofs.lemmas.List.{get_or_append_left}
use Rattle.std.specs.Option.{option_map}
use Rattle.std.proofs.lemmas.Slice.Eq.{bytes_eq-Decides}
use Rattle.tables.specs.Keyed.{Apart, add_in, has, has_key, looked_up, put_in, take_out}
use Rattle.tables.proofs.Edits.{apart_add, apart_out, apart_put, found_put, gone, itself, there_added}
use Rattle.tables.proofs.Images.{image_add, image_found, image_out, image_put}

-- a list whose rows mean their keys
pub add_means : {X : Type 0} (f : X → List ℕ) (old new : List X) (x : X) → new ≡ add_in f x old → (map f new ≡ add_in itself (f x) (map f old)) × (has itself (f x) (map f new) ≡ true) × (Apart (map f old) → Apart (map f new))
add_means f old new x e =
    let rows = ap (map f) e ∙ image_add f itself x old in
    (rows, rw rows (there_added (has_key itself (f x)) (f x) (map f old) ((bytes_eq-Decides (f x) _).1 refl)), (λ a. rw rows (apart_add (f x) (map f old) a)))

module _ {X : Type 0} (code : X → List ℕ) where
  -- these three are named in docs/PORT.md
  -- none of the first `n` rows has the key
  abbrev pub Misses : List ℕ → List X → ℕ → Type 0
  Misses k xs n = (j : ℕ) → j < n → (d : X) → code (get_or xs j d) ≢ k

  -- a row that is added last changes nothing before it
  pub Misses-push : (x : X) (xs : List X) → Misses (code x) xs (length xs) → Misses (code x) (xs ++ x ∷ []) (length xs)
  Misses-push x xs m j l d e = m j l d (sym (ap code (get_or_append_left xs (x ∷ []) d j l)) ∙ e)

  -- keys stay apart where a row is added
  pub Apart-add : (x : X) (xs : List X) → Apart (map code xs) → Apart (map code (add_in code x xs))
  Apart-add x xs a = (add_means code xs (add_in code x xs) x refl).2 a

module _ {X Y : Type 0} (f : X → Y) (key : Y → List ℕ) (old new : List X) where
  abbrev before : List Y
  before = map f old

  abbrev after : List Y
  after = map f new

  pub put_means : (x : X) → new ≡ put_in (λ y. key (f y)) x old → (after ≡ put_in key (f x) before) × (looked_up key (key (f x)) after ≡ Some (f x)) × (Apart (map key before) → Apart (map key after))
  put_means x e =
      let rows = ap (map f) e ∙ image_put f key x old in
      let keys = ap (map key) rows ∙ image_put key itself (f x) before in
      (rows, rw rows (found_put _ (f x) before ((bytes_eq-Decides (key (f x)) _).1 refl)), (λ a. rw keys (apart_put (key (f x)) (map key before) a)))

  none_under : (o : Option Y) → option_map key o ≡ None → o ≡ None
  none_under None e = refl
  none_under (Some y) e = cc

  pub out_means : (k : List ℕ) → new ≡ take_out (λ y. key (f y)) k old → Apart (map key before) → (after ≡ take_out key k before) × (looked_up key k after ≡ None) × Apart (map key after)
  out_means k e a =
      let rows = ap (map f) e ∙ image_out f key k old in
      let keys = ap (map key) rows ∙ image_out key itself k before in
      (rows, none_under _ (image_found key (has_key itself k) after ∙ rw keys (gone k (map key before) a)), rw keys (apart_out k (map key before) a))
