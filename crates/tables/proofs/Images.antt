-- The same edits on rows and on what the rows mean.
use Rattle.std.proofs.Common.{◌≡◌, ℕ, Bool, true, false, cond, List, [], ◌∷◌, map, Some, None, Option, refl, ap, ◌∙◌, arith}
use mathlib.Core.List.{map-append}
use Rattle.std.specs.List.{find, position_or_len}
use Rattle.std.specs.Option.{option_map}
use Rattle.std.proofs.lemmas.List.{length-map, map-set, map_push, take-map, drop-map}
use Rattle.tables.specs.Keyed.{add_in, appended, has_key, out_at, place_of, put_at, put_in, take_out}

module _ {X Y : Type 0} (f : X → Y) where
  image_cond : (b : Bool) (xs ys : List X) → map f (cond b xs ys) ≡ cond b (map f xs) (map f ys)
  image_cond true xs ys = refl
  image_cond false xs ys = refl

  image_appended : (x : X) (xs : List X) → map f (appended x xs) ≡ appended (f x) (map f xs)
  image_appended x xs = grind (arith, map_push f, image_cond, drop-map f, length-map xs f)

  image_put_at : (o : Option ℕ) (x : X) (xs : List X) → map f (put_at o x xs) ≡ put_at o (f x) (map f xs)
  image_put_at (Some i) x xs = map-set f xs i x
  image_put_at None x xs = image_appended x xs

  image_out_at : (o : Option ℕ) (xs : List X) → map f (out_at o xs) ≡ out_at o (map f xs)
  image_out_at (Some i) xs = grind (arith, map-append f, take-map f, drop-map f)
  image_out_at None xs = refl

  image_passed : (p : Y → Bool) (xs : List X) → position_or_len (λ x. p (f x)) xs ≡ position_or_len p (map f xs)
  image_passed p [] = refl
  image_passed p (x ∷ xs) = let e = image_passed p xs in grind arith

  pub image_found : (p : Y → Bool) (xs : List X) → option_map f (find (λ x. p (f x)) xs) ≡ find p (map f xs)
  image_found p [] = refl
  image_found p (x ∷ xs) = let e = image_found p xs in grind arith

  module _ (code : Y → List ℕ) where
    abbrev coded : X → List ℕ
    coded x = code (f x)

    pub image_place : (k : List ℕ) (xs : List X) → place_of coded k xs ≡ place_of code k (map f xs)
    image_place k xs = grind (arith, image_passed (has_key code k) xs, length-map xs f)

    pub image_put : (x : X) (xs : List X) → map f (put_in coded x xs) ≡ put_in code (f x) (map f xs)
    image_put x xs = image_put_at _ x xs ∙ ap (λ o. put_at o (f x) (map f xs)) (image_place (coded x) xs)

    pub image_add : (x : X) (xs : List X) → map f (add_in coded x xs) ≡ add_in code (f x) (map f xs)
    image_add x xs = grind (arith, image_cond, image_appended, image_place (coded x) xs)

    pub image_out : (k : List ℕ) (xs : List X) → map f (take_out coded k xs) ≡ take_out code k (map f xs)
    image_out k xs = image_out_at _ xs ∙ ap (λ o. out_at o (map f xs)) (image_place k xs)
