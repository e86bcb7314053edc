-- Lists of bytes cut into parts and blocks whose lengths are known, and numbers written least byte first.
use Rattle.std.proofs.Common.{◌≡◌, ℕ, ◌/◌, ◌%◌, ◌^◌, ◌<◌, List, [], ◌∷◌, ◌++◌, length, take, drop, sym, refl, ap, ◌∙◌, subst, ap₂, subst₂, arith, length-append}
use mathlib.Core.List.{head-eq_of_cons-eq as same_head, tail-eq_of_cons-eq as same_tail}
use Rattle.std.proofs.lemmas.List.{take_at, drop_at}
use Rattle.std.specs.List.{flat_map}
use Rattle.reader.specs.Replies.{least_first}

-- equal lists whose first parts are as long have equal first parts, and equal rests
pub same_parts : {A : Type 0} (xs ys us vs : List A) → length xs ≡ length ys → xs ++ us ≡ ys ++ vs → (xs ≡ ys) × (us ≡ vs)
same_parts xs ys us vs l e = (
  sym (take_at xs us (length ys) l) ∙ ap (take (length ys)) e ∙ take_at ys vs (length ys) refl,
  sym (drop_at xs us (length ys) l) ∙ ap (drop (length ys)) e ∙ drop_at ys vs (length ys) refl,
)

-- blocks of one length, each of which tells what it is a block of: joined, they tell the list
module _ {X : Type 0} (block : X → List ℕ) (n : ℕ) (long : (x : X) → length (block x) ≡ n) (some : 0 < n) (tells : (x y : X) → block x ≡ block y → x ≡ y) where
  pub same_joined : (xs ys : List X) → flat_map block xs ≡ flat_map block ys → xs ≡ ys
  same_joined [] [] e = refl
  same_joined [] (y ∷ ys) e = absurd (omega (arith, ap length e, length-append (block y) (flat_map block ys), long y))
  same_joined (x ∷ xs) [] e = absurd (omega (arith, ap length e, length-append (block x) (flat_map block xs), long x))
  same_joined (x ∷ xs) (y ∷ ys) e =
      let both = same_parts (block x) (block y) (flat_map block xs) (flat_map block ys) (long x ∙ sym (long y)) e in
      ap₂ (λ (z : X) (zs : List X). z ∷ zs) (tells x y both.0) (same_joined xs ys both.1)

-- a number is told by its least byte and the rest
same_number : (n m : ℕ) → n % 256 ≡ m % 256 → n / 256 ≡ m / 256 → n ≡ m
same_number n m e f = omega arith

-- a number below 2 ^ 32 is told by its four bytes
pub same_four : (n m : ℕ) → n < 2 ^ 32 → m < 2 ^ 32 → least_first 4 n ≡ least_first 4 m → n ≡ m
same_four n m h k e =
    same_number n m (same_head e)
    (same_number (n / 256) (m / 256) (same_head (same_tail e))
    (same_number (n / 256 / 256) (m / 256 / 256) (same_head (same_tail (same_tail e)))
    (same_number (n / 256 / 256 / 256) (m / 256 / 256 / 256) (same_head (same_tail (same_tail (same_tail e))))
    (gone n h ∙ sym (gone m k)))))
  where
    gone : (x : ℕ) → x < 2 ^ 32 → x / 256 / 256 / 256 / 256 ≡ 0
    gone x l = omega arith

-- A type whose values are of kinds, and made of parts: what holds of any two made of parts of one kind holds of any two of one kind.
-- A value is made anew from its parts up to what `normal` evens out.
module _ {X K : Type 0} (kind : X → K) (Parts : K → Type 0) (parts : (x : X) → Parts (kind x)) (make : (k : K) → Parts k → X)
    (normal : X → X) (again : (x : X) → make (kind x) (parts x) ≡ normal x) where
  pub by_kind : (Q : X → X → Type 0) → ((k : K) (u v : Parts k) → Q (make k u) (make k v)) → (x y : X) → kind x ≡ kind y → Q (normal x) (normal y)
  by_kind Q h x y e =
      subst₂ Q (again x) (again y)
      (subst (λ (l : K). (u : Parts (kind x)) (v : Parts l) → Q (make (kind x) u) (make l v)) e (h (kind x)) (parts x) (parts y))
