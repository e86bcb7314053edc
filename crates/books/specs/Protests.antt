-- The protest book keeps the laws and the promise of every book.
use Rattle.std.specs.Prelude.{◌≡◌, ℕ, ◌<◌, Bool, true, ◌&&◌, Ok, Err, ◌==◌, ◌≢◌}
use Rattle.std.proofs.Common.{sym, ap, ap₂, ◌∙◌, arith, lit≤, ne_eqb}
use Rattle.std.proofs.Math.Path.{fun_ext}
use Rattle.std.proofs.lemmas.Bool.{and_parts, and_from}
use Rattle.rulings.specs.Points.{Points, Disjoint}
use Rattle.rulings.specs.Rulings.{has}
use Rattle.rulings.specs.declared.ruling.Ruling.{Ruling}
use Rattle.semantics.specs.Meaning.{Lawful, AgreeOnRead}
use Rattle.semantics.proofs.Tests.{both_ways}
use Rattle.answers.specs.declared.fault.Refusal.TheVariants.{NoSupportersHere, NothingEntered}
use Rattle.books.specs.declared.protest_book.ProtestBook.{ProtestBook}
use Rattle.books.specs.Promise.{Outcome, SameBut, Opening, Entering, Withdrawing}
use Rattle.books.specs.Entries.{avoids}
use Rattle.books.specs.ProtestBook.{Supported, NotLodged, lodged, protesters, protest_meaning, ProtestOpened, ProtestEntered, ProtestWithdrawn}
use Rattle.books.specs.Tests.{contrapositive, or_nothing, and_not_nothing}
use Rattle.books.specs.EntriesLemmas.{avoids_use, avoids_of}
use Rattle.books.specs.Faults.{entering_accepted, entering_denied, opening_accepted, opening_denied, withdrawing_accepted, withdrawing_denied}

module _ (b : ProtestBook) where
  -- protesters are points of the book, so below 128
  protesters_below : (a c : ℕ) → protesters b a c ≡ true → c < 128
  protesters_below a c h = omega (arith, b.attackers a c h, b.most)

  -- a point that derives, in words
  pub stands_use : (x y : Points) (a : ℕ) → (protest_meaning b).derives x y a ≡ true → (lodged b a ≡ true) × Disjoint (protesters b a) y
  stands_use x y a h =
      let p = and_parts (lodged b a) _ h in
      (p.0, avoids_use (protesters b a) (protesters_below a) y p.1)

  pub stands_of : (x y : Points) (a : ℕ) → lodged b a ≡ true → Disjoint (protesters b a) y → (protest_meaning b).derives x y a ≡ true
  stands_of x y a l d = and_from _ _ l (avoids_of (protesters b a) (protesters_below a) y d)

  -- the book keeps the laws of every book
  pub protests_lawful : Lawful (protest_meaning b)
  protests_lawful =
      record {
        some_point = b.least;
        few_points = b.most;
        more = λ x x' y a p h. h;
        fewer = λ x y y' a p h.
            let s = stands_use x y a h in
            stands_of x y' a s.0 (λ c q. contrapositive (y c) (y' c) (p c) (s.1 c q));
        local = λ x y x' y' a agree.
            both_ways ((protest_meaning b).derives x y a) ((protest_meaning b).derives x' y' a)
            (through x y x' y' a agree)
            (through x' y' x y a (λ c q. let s = agree c q in (sym s.0, sym s.1)));
        derives_inside = λ x y a h. b.arguments a (stands_use x y a h).0;
        reads_inside = λ a c h. let q = and_parts (lodged b a) _ h in (b.arguments a q.0, b.attackers a c q.1);
      }
    where
      through : (x y x' y' : Points) (a : ℕ) → AgreeOnRead (protest_meaning b) a x y x' y' →
          (protest_meaning b).derives x y a ≡ true → (protest_meaning b).derives x' y' a ≡ true
      through x y x' y' a agree h =
          let s = stands_use x y a h in
          stands_of x' y' a s.0 (λ c q. sym (agree c (and_from _ _ s.0 q)).1 ∙ s.1 c q)

-- where the other points are lodged and protested as they were, their answers are as they were
same_but : (b : ProtestBook) (a : ℕ) (b' : ProtestBook) → ((c : ℕ) → (c ≢ a) → lodged b' c ≡ lodged b c) →
    ((c : ℕ) → (c ≢ a) → (d : ℕ) → protesters b' c d ≡ protesters b c d) → SameBut a (protest_meaning b) (protest_meaning b')
same_but b a b' l p =
    record {
      derives = λ c other x y. ap₂ (λ (t : Bool) (q : Points). t && avoids y q) (l c other) (fun_ext (p c other));
      reads = λ c other d. ap₂ ◌&&◌ (l c other) (p c other d);
    }

-- what each change does to lodged points and protesters is what every book promises of it
pub protest_opens : (b : ProtestBook) (n : ℕ) (r : Outcome) (b' : ProtestBook) → ProtestOpened b n r b' → Opening (protest_meaning b) n r (protest_meaning b')
protest_opens b n (Ok tt) b' (good, size, _, _) = opening_accepted (protest_meaning b) n (protest_meaning b') good size
protest_opens b n (Err f) b' (bad, is, same) = opening_denied (protest_meaning b) n (protest_meaning b') f bad is (ap protest_meaning same)

pub protest_enters : (b : ProtestBook) (a : ℕ) (p q : Ruling) (r : Outcome) (b' : ProtestBook) →
    ProtestEntered b a p q r b' → Entering (protest_meaning b) a p q r (protest_meaning b')
protest_enters b a p q (Ok tt) b' (inside, clear, alone, size, lodging, protests) =
    entering_accepted (protest_meaning b) a p q (protest_meaning b') inside clear size
    (same_but b a b'
    (λ c other. lodging c ∙ or_nothing (lodged b c) (c == a) (ne_eqb c a other))
    (λ c other d. protests c d ∙ or_nothing (protesters b c d) (c == a && has q d) (ap (λ (t : Bool). t && has q d) (ne_eqb c a other))))
protest_enters b a p q (Err f) b' (why, same) =
    entering_denied (protest_meaning b) a p q (protest_meaning b') (Supported p) f (λ h. (NoSupportersHere h.0, h.1, lit≤ tt, lit≤ tt)) why (ap protest_meaning same)

pub protest_withdraws : (b : ProtestBook) (a : ℕ) (r : Outcome) (b' : ProtestBook) →
    ProtestWithdrawn b a r b' → Withdrawing (protest_meaning b) a r (protest_meaning b')
protest_withdraws b a (Ok tt) b' (inside, some, size, lodging, protests) =
    withdrawing_accepted (protest_meaning b) a (protest_meaning b') inside size
    (same_but b a b'
    (λ c other. lodging c ∙ and_not_nothing (lodged b c) (c == a) (ne_eqb c a other))
    (λ c other d. protests c d ∙ and_not_nothing (protesters b c d) (c == a) (ne_eqb c a other)))
protest_withdraws b a (Err f) b' (why, same) =
    withdrawing_denied (protest_meaning b) a (protest_meaning b') (NotLodged b a) f (λ h. (NothingEntered a, h.0, lit≤ tt, lit≤ tt)) why (ap protest_meaning same)
