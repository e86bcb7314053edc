-- The rule book keeps the promise of every book.
use Rattle.std.specs.Prelude.{◌≡◌, ℕ, true, false, not, Ok, Err, refl}
use Rattle.std.proofs.Common.{sym, ap, ◌∙◌, lit≤, eqb-true, eq-eqb, ne_eqb}
use Rattle.std.proofs.lemmas.Bool.{not-false}
use Rattle.rulings.specs.Points.{Points}
use Rattle.rulings.specs.declared.ruling.Ruling.{Ruling}
use Rattle.answers.specs.declared.fault.Refusal.TheVariants.{BookFull, NothingEntered}
use Rattle.books.specs.declared.entry.Entry.{Entry}
use Rattle.std.specs.List.{list_any}
use Rattle.books.specs.declared.rule_book.RuleBook.{RuleBook}
use Rattle.books.specs.Promise.{Outcome, Opening, Entering, Withdrawing}
use Rattle.books.specs.Entries.{for_point, fires, looks_at}
use Rattle.books.specs.RuleBook.{Full, NoEntry, entries, meaning_of, entry, Opened, Entered, Withdrawn}
use Rattle.books.specs.Any.{any_push, any_kept}
use Rattle.books.specs.Faults.{entering_accepted, entering_denied, opening_accepted, opening_denied, withdrawing_accepted, withdrawing_denied}

-- an entry for another point neither fires nor looks at anything for this one
module _ (a b : ℕ) (other : b ≡ a → ⊥) (e : Entry) where
  for_other : for_point a e ≡ true → for_point b e ≡ false
  for_other h = ne_eqb e.point b (λ q. other (sym q ∙ eqb-true e.point a h))

  no_fire : (x y : Points) → for_point a e ≡ true → fires b x y e ≡ false
  no_fire x y h = rw (for_other h) refl

  no_look : (c : ℕ) → for_point a e ≡ true → looks_at b c e ≡ false
  no_look c h = rw (for_other h) refl

-- what each change does to the entries is what every book promises of it
pub opens : (b : RuleBook) (n : ℕ) (r : Outcome) (b' : RuleBook) → Opened b n r b' → Opening (meaning_of b) n r (meaning_of b')
opens b n (Ok tt) b' (good, size, _) = opening_accepted (meaning_of b) n (meaning_of b') good size
opens b n (Err f) b' (bad, is, same) = opening_denied (meaning_of b) n (meaning_of b') f bad is (ap meaning_of same)

pub enters : (b : RuleBook) (a : ℕ) (p q : Ruling) (r : Outcome) (b' : RuleBook) → Entered b a p q r b' → Entering (meaning_of b) a p q r (meaning_of b')
enters b a p q (Ok tt) b' (inside, clear, room, size, after) =
    entering_accepted (meaning_of b) a p q (meaning_of b') inside clear size
    (record {
      derives = λ c other x y. ap (list_any (fires c x y)) after ∙ any_push (fires c x y) (entries b) (entry a p q) (no_fire a c other (entry a p q) x y (eq-eqb a a refl));
      reads = λ c other d. ap (list_any (looks_at c d)) after ∙ any_push (looks_at c d) (entries b) (entry a p q) (no_look a c other (entry a p q) d (eq-eqb a a refl));
    })
enters b a p q (Err f) b' (why, same) =
    entering_denied (meaning_of b) a p q (meaning_of b') (Full b) f (λ h. (BookFull, h.0, lit≤ tt, lit≤ tt)) why (ap meaning_of same)

pub withdraws : (b : RuleBook) (a : ℕ) (r : Outcome) (b' : RuleBook) → Withdrawn b a r b' → Withdrawing (meaning_of b) a r (meaning_of b')
withdraws b a (Ok tt) b' (inside, some, size, after) =
    withdrawing_accepted (meaning_of b) a (meaning_of b') inside size
    (record {
      derives = λ c other x y. ap (list_any (fires c x y)) after ∙ any_kept (fires c x y) (λ e. not (for_point a e)) (λ e h. no_fire a c other e x y (gone e h)) (entries b);
      reads = λ c other d. ap (list_any (looks_at c d)) after ∙ any_kept (looks_at c d) (λ e. not (for_point a e)) (λ e h. no_look a c other e d (gone e h)) (entries b);
    })
  where
    gone : (e : Entry) → not (for_point a e) ≡ false → for_point a e ≡ true
    gone e h = not-false (for_point a e) h
withdraws b a (Err f) b' (why, same) =
    withdrawing_denied (meaning_of b) a (meaning_of b') (NoEntry b a) f (λ h. (NothingEntered a, h.0, lit≤ tt, lit≤ tt)) why (ap meaning_of same)
