-- A list of entries, and a protest book, mean their programs and read the bodies of the rules.
use Rattle.std.specs.Prelude.{◌≡◌, ℕ, true, false, ◌&&◌, ◌||◌, ◌⊎◌, List, refl}
use Rattle.std.specs.List.{list_any}
use Rattle.std.proofs.Common.{sym, subst, inl, inr, eq-eqb}
use Rattle.std.proofs.lemmas.List.Folds.{Any-from_list_any, list_any-from_Any}
use Rattle.std.proofs.lemmas.Bool.{and_from, or_left, or_right}
use Rattle.rulings.specs.Points.{Part, Disjoint}
use Rattle.rulings.specs.Rulings.{has}
use Rattle.semantics.proofs.Tests.{false_is_not_true}
use Rattle.books.specs.declared.entry.Entry.{Entry}
use Rattle.books.specs.declared.protest_book.ProtestBook.{ProtestBook}
use Rattle.books.specs.Entries.{fires, looks_at, by_entries}
use Rattle.books.specs.ProtestBook.{lodged, protesters, protest_meaning, protest_program}
use Rattle.books.specs.Program.{Rule, Derives, rule_of, program_of}
use Rattle.books.specs.EntriesLemmas.{fires_use, fires_of}
use Rattle.books.specs.Protests.{stands_use, stands_of}
use Rattle.books.proofs.Programs.{GivenBy, ReadsBodies}

-- a list of entries means the program of its entries, and reads the bodies of its rules
module _ (n : ℕ) (es : List Entry) where
  pub given_by_entries : GivenBy (by_entries n es) (program_of es)
  given_by_entries x y a = (by_some_rule, by_some_entry)
    where
      by_some_rule : list_any (fires a x y) es ≡ true → Derives (program_of es) x y a
      by_some_rule h =
          let (k, e, low, at, fire) = Any-from_list_any (fires a x y) es h in
          let f = fires_use e a x y fire in
          (rule_of e, (k, e, low, at, refl), f.0, f.1, f.2)

      by_some_entry : Derives (program_of es) x y a → list_any (fires a x y) es ≡ true
      by_some_entry (r, (k, e, low, here, q), at, p, d) =
          list_any-from_Any (fires a x y) es (
            k,
            e,
            low,
            here,
            fires_of e a x y
                (subst (λ (s : Rule). s.head ≡ a) q at) (subst (λ (s : Rule). Part s.positive x) q p) (subst (λ (s : Rule). Disjoint s.negative y) q d),
          )

  pub reads_bodies_of_entries : ReadsBodies (by_entries n es) (program_of es)
  reads_bodies_of_entries r (k, e, low, here, q) b =
      subst (λ (s : Rule). (s.positive b ≡ true) ⊎ (s.negative b ≡ true) → list_any (looks_at s.head b) es ≡ true) (sym q)
      (λ named. list_any-from_Any (looks_at e.point b) es (k, e, low, here, and_from _ _ (eq-eqb e.point e.point refl) (either named)))
    where
      either : (has e.supporters b ≡ true) ⊎ (has e.strikers b ≡ true) → has e.supporters b || has e.strikers b ≡ true
      either (inl p) = or_left _ _ p
      either (inr p) = or_right _ _ p

-- and so does a protest book
module _ (b : ProtestBook) where
  pub given_by_protests : GivenBy (protest_meaning b) (protest_program b)
  given_by_protests x y a = (by_its_rule, by_protesters)
    where
      by_its_rule : (protest_meaning b).derives x y a ≡ true → Derives (protest_program b) x y a
      by_its_rule h =
          let s = stands_use b x y a h in
          (record { head = a; positive = λ _. false; negative = protesters b a }, (a, s.0, refl), refl, λ c e. false_is_not_true e, s.1)

      by_protesters : Derives (protest_program b) x y a → (protest_meaning b).derives x y a ≡ true
      by_protesters (r, (c, l, q), at, p, d) =
          subst (λ (k : ℕ). (protest_meaning b).derives x y k ≡ true) (subst (λ (s : Rule). s.head ≡ a) q at)
          (stands_of b x y c l (subst (λ (s : Rule). Disjoint s.negative y) q d))

  pub reads_bodies_of_protests : ReadsBodies (protest_meaning b) (protest_program b)
  reads_bodies_of_protests r (a, l, q) c =
      subst (λ (s : Rule). (s.positive c ≡ true) ⊎ (s.negative c ≡ true) → (protest_meaning b).reads s.head c ≡ true) (sym q) either
    where
      either : (false ≡ true) ⊎ (protesters b a c ≡ true) → lodged b a && protesters b a c ≡ true
      either (inl e) = false_is_not_true e
      either (inr e) = and_from _ _ l e
