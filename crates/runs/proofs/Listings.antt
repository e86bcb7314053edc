-- Listings: settled by what they list, and a listing by chapters is one of the book read whole.
use Rattle.std.proofs.Common.{◌≡◌, ℕ, ◌↔◌, List, subst}
use Rattle.rulings.specs.Rulings.{has}
use Rattle.rulings.specs.declared.ruling.Ruling.{Ruling}
use Rattle.semantics.specs.Meaning.{Meaning, Lawful}
use Rattle.semantics.specs.Chapters.{Fit, Sixteen}
use Rattle.semantics.specs.Closure.{Stable}
use Rattle.semantics.specs.Listing.{AllInRowOrder, AllPartsStable}
use Rattle.semantics.proofs.Splitting.{stable_splits}
use Rattle.semantics.proofs.Ways.{one_listing}

-- two listings of the same rulings are equal
pub same_listing : (Q Q' : Ruling → Type 0) (xs ys : List Ruling) → ((r : Ruling) → Q r ↔ Q' r) → AllInRowOrder Q xs → AllInRowOrder Q' ys → xs ≡ ys
same_listing Q Q' xs ys same p q =
    one_listing p (record { only = λ r h. (same r).1 (q.only r h); each = λ r h. q.each r ((same r).0 h); in_order = q.in_order })

-- two equal listings list the same rulings
pub same_listed : (Q Q' : Ruling → Type 0) (xs ys : List Ruling) → xs ≡ ys → AllInRowOrder Q xs → AllInRowOrder Q' ys → (r : Ruling) → Q r ↔ Q' r
same_listed Q Q' xs ys e p q r =
    let p' : AllInRowOrder Q ys = subst (AllInRowOrder Q) e p in
    (λ h. q.only r (p'.each r h), λ h. p'.only r (q.each r h))

-- by the splitting theorem
pub whole_listing : (m : Meaning) (ch : ℕ → ℕ) (rows : List Ruling) → Lawful m → Fit m ch → Sixteen ch →
    AllInRowOrder (AllPartsStable m ch) rows → AllInRowOrder (λ r. Stable m (has r)) rows
whole_listing m ch rows lawful fit few all =
    record {
      only = λ r h. (stable_splits m ch lawful fit few (has r)).1 (all.only r h);
      each = λ r h. all.each r ((stable_splits m ch lawful fit few (has r)).0 h);
      in_order = all.in_order;
    }
