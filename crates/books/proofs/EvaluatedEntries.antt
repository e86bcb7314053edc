-- The entries of a chapter, evaluated: that there are such entries, and that they derive as the chapter does.
use Rattle.std.proofs.Math.Bool.{and-true}
use Rattle.std.proofs.Common.{slice_index_or, ◌≡◌, ℕ, ◌<◌, ◌≤◌, Bool, true, false, ◌&&◌, ◌||◌, eqb, List, [], ◌∷◌, map, filter, sym, refl, ap, ap₂, ◌∙◌, subst, inl, inr, arith, eq-eqb, eqb-true}
use Rattle.std.specs.List.{All, AllZip, list_any}
use Rattle.std.proofs.lemmas.List.Elements.{All-head, All-tail, All-filter, All-map, All-weaker, filter_passes}
use Rattle.std.proofs.lemmas.List.{length-map}
use Rattle.std.proofs.lemmas.List.Folds.{list_any_at}
use Rattle.std.proofs.lemmas.List.Sums.{length-filter, count_by-le-length}
use Rattle.std.proofs.lemmas.Map.Views.{any-filter_same}
use Rattle.std.proofs.lemmas.Bool.{and_parts, and_from, or_cases, or_left, or_right}
use Rattle.rulings.specs.Points.{Points, Part, Disjoint}
use Rattle.rulings.specs.Rulings.{has}
use Rattle.rulings.specs.declared.ruling.Ruling.{Ruling}
use Rattle.semantics.specs.Chapters.{Fit, in_chapter, below_chapter, chapter}
use Rattle.semantics.proofs.Tests.{both_ways}
use Rattle.semantics.proofs.RulingOf.{ruling_of, ruling_of_same}
use Rattle.books.specs.declared.entry.Entry.{Entry}
use Rattle.books.specs.declared.rule_book.RuleBook.{RuleBook}
use Rattle.books.specs.Entries.{fires, looks_at, names, by_entries}
use Rattle.books.specs.RuleBook.{entries, meaning_of}
use Rattle.books.specs.PartialEvaluation.{keeps, Cut, EntriesEvaluated, EvaluatesToEntries}
use Rattle.rulings.proofs.Bytes.{has_below}
use Rattle.books.specs.EntriesLemmas.{covers_use, covers_of, avoids_use, avoids_of, fires_use, fires_of}
use Rattle.books.proofs.PartialEvaluation.{joined, split_lower, split_here, join}

-- ---- lists, place by place

-- tests that agree on what two lists have at each place are alike on the lists
any_zip : {X Y : Type 0} (P : X → Type 0) (R : X → Y → Type 0) (s : X → Bool) (t : Y → Bool) →
    ((x : X) (y : Y) → P x → R x y → s x ≡ t y) → (xs : List X) (ys : List Y) → All P xs → AllZip R xs ys → list_any s xs ≡ list_any t ys
any_zip P R s t f [] [] p z = refl
any_zip P R s t f [] (y ∷ ys) p z = absurd z
any_zip P R s t f (x ∷ xs) [] p z = absurd z
any_zip P R s t f (x ∷ xs) (y ∷ ys) p z =
    ap₂ ◌||◌ (f x y (All-head P x xs p) z.0) (any_zip P R s t f xs ys (All-tail P x xs p) z.1)

map_zip : {X Y : Type 0} (R : X → Y → Type 0) (g : X → Y) → ((x : X) → R x (g x)) → (xs : List X) → AllZip R xs (map g xs)
map_zip R g f [] = tt
map_zip R g f (x ∷ xs) = (f x, map_zip R g f xs)

-- an entry names no point of a higher chapter than its own point's
abbrev NoneHigher : (ℕ → ℕ) → Entry → Type 0
NoneHigher ch e = (b : ℕ) → names e b ≡ true → ch b ≤ ch e.point

module _ (ch : ℕ → ℕ) (k : ℕ) where
  -- ---- a cut entry is an entry

  cut_small : (r : Ruling) (b : ℕ) → in_chapter ch k (has r) b ≡ true → b < 128
  cut_small r b h = has_below r b (and_parts _ _ h).1

  cut_ruling : Ruling → Ruling
  cut_ruling r = ruling_of (in_chapter ch k (has r))

  cut_ruling_has : (r : Ruling) → has (cut_ruling r) ≡ in_chapter ch k (has r)
  unfolding cut_ruling
  cut_ruling_has r = ruling_of_same (in_chapter ch k (has r)) (cut_small r)

  abbrev cut_entry : Entry → Entry
  cut_entry e = record { point = e.point; supporters = cut_ruling e.supporters; strikers = cut_ruling e.strikers }

  cut_is_cut : (e : Entry) → Cut ch k e (cut_entry e)
  cut_is_cut e = record { point = refl; supporters = cut_ruling_has e.supporters; strikers = cut_ruling_has e.strikers }

  cut_part : (r : Ruling) → Part (has (cut_ruling r)) (has r)
  cut_part r b h = (and_parts (eqb (ch b) k) (has r b) (sym (ap (λ (x : Points). x b) (cut_ruling_has r)) ∙ h)).1

  cut_names : (e : Entry) → Part (names (cut_entry e)) (names e)
  cut_names e b h =
      elim (or_cases _ _ h) [
        | inl p ↦ or_left (has e.supporters b) (has e.strikers b) (cut_part e.supporters b p)
        | inr p ↦ or_right (has e.supporters b) (has e.strikers b) (cut_part e.strikers b p)
      ]

  module _ (U V : Points) where
    -- ---- the entries that the chapter keeps

    below_small : (r : Ruling) (b : ℕ) → below_chapter ch k (has r) b ≡ true → b < 128
    below_small r b h = has_below r b (and_parts _ _ h).1

    kept : (e : Entry) → keeps ch k U V e ≡ true →
        (ch e.point ≡ k) × Part (below_chapter ch k (has e.supporters)) U × Disjoint (below_chapter ch k (has e.strikers)) V
    kept e h =
        let p = and_parts _ _ h in
        let q = and_parts _ _ p.1 in (
          eqb-true (ch e.point) k p.0,
          covers_use (below_chapter ch k (has e.supporters)) (below_small e.supporters) U q.0,
          avoids_use (below_chapter ch k (has e.strikers)) (below_small e.strikers) V q.1,
        )

    module _ (x y : Points) (a : ℕ) where
      -- an entry that fires over the lower points is kept exactly if its point is in the chapter
      fires_kept : (e : Entry) → fires a (joined ch k U x) (joined ch k V y) e ≡ true → keeps ch k U V e ≡ eqb (ch a) k
      fires_kept e h =
          let f = fires_use e a _ _ h in
          let met = and_from _ _
          (covers_of (below_chapter ch k (has e.supporters)) (below_small e.supporters) U (split_lower ch k (has e.supporters) U x true f.1))
          (avoids_of (below_chapter ch k (has e.strikers)) (below_small e.strikers) V (split_lower ch k (has e.strikers) V y false f.2)) in
          ap (λ (t : Bool). eqb (ch e.point) k && t) met ∙ (and-true _ ∙ ap (λ (p : ℕ). eqb (ch p) k) f.0)

      -- a kept entry, of which no point is in a higher chapter, fires over the lower points exactly if it does once it is cut
      fires_cut : (e e' : Entry) → (keeps ch k U V e ≡ true) × NoneHigher ch e → Cut ch k e e' →
          fires a (joined ch k U x) (joined ch k V y) e ≡ fires a x y e'
      fires_cut e e' (here, fits) c = both_ways _ _ whole_to_cut cut_to_whole
        where
          whole_to_cut : fires a (joined ch k U x) (joined ch k V y) e ≡ true → fires a x y e' ≡ true
          whole_to_cut h =
              let f = fires_use e a _ _ h in
              fires_of e' a x y (c.point ∙ f.0)
              (subst (λ (p : Points). Part p x) (sym c.supporters) (split_here ch k (has e.supporters) U x true f.1))
              (subst (λ (q : Points). Disjoint q y) (sym c.strikers) (split_here ch k (has e.strikers) V y false f.2))

          cut_to_whole : fires a x y e' ≡ true → fires a (joined ch k U x) (joined ch k V y) e ≡ true
          cut_to_whole h =
              let f = fires_use e' a x y h in
              let l = kept e here in
              fires_of e a (joined ch k U x) (joined ch k V y) (sym c.point ∙ f.0)
              (join ch k (has e.supporters) U x true (λ b p. omega (arith, fits b (or_left _ _ p), l.0)) l.1
              (subst (λ (p : Points). Part p x) c.supporters f.1))
              (join ch k (has e.strikers) V y false (λ b p. omega (arith, fits b (or_right (has e.supporters b) _ p), l.0)) l.2
              (subst (λ (q : Points). Disjoint q y) c.strikers f.2))

module _ (b : RuleBook) (ch : ℕ → ℕ) (k : ℕ) (U V : Points) where
  abbrev kept_entries : List Entry
  kept_entries = filter (keeps ch k U V) (entries b)

  -- the rule book of the entries evaluated
  cut_book : RuleBook
  cut_book =
      record {
        size = b.size;
        table = record { entries = record { items = map (cut_entry ch k) kept_entries } };
        least = b.least;
        most = b.most;
        room = omega (arith, b.room, length-map kept_entries (cut_entry ch k), length-filter (keeps ch k U V) (entries b), count_by-le-length (keeps ch k U V) (entries b));
        heads = All-map (λ e. e.point < b.size) (cut_entry ch k) kept_entries (All-filter (keeps ch k U V) (λ e. e.point < b.size) (entries b) b.heads);
        bodies = All-map inside (cut_entry ch k) kept_entries
            (All-weaker inside (λ e. inside (cut_entry ch k e)) (λ e h c q. h c (cut_names ch k e c q)) kept_entries
            (All-filter (keeps ch k U V) inside (entries b) b.bodies));
      }
    where
      inside : Entry → Type 0
      inside e = (c : ℕ) → names e c ≡ true → c < b.size

  cut_book_evaluated : EntriesEvaluated ch k U V (entries b) (entries cut_book)
  unfolding cut_book
  cut_book_evaluated = map_zip (Cut ch k) (cut_entry ch k) (cut_is_cut ch k) kept_entries

  module _ (fit : Fit (meaning_of b) ch) where
    fits : All (NoneHigher ch) (entries b)
    fits i d low c named =
        let e = slice_index_or (entries b) i d in
        fit e.point c (list_any_at (looks_at e.point c) (entries b) i d low (and_from _ _ (eq-eqb e.point e.point refl) named))

    derives_evaluated : (n : ℕ) (es' : List Entry) → EntriesEvaluated ch k U V (entries b) es' → (x y : Points) (a : ℕ) →
        (by_entries n es').derives x y a ≡ (chapter (meaning_of b) ch k (below_chapter ch k U) (below_chapter ch k V)).derives x y a
    derives_evaluated n es' z x y a =
        sym (any_zip _ (Cut ch k) (fires a (joined ch k U x) (joined ch k V y)) (fires a x y) (fires_cut ch k U V x y a) (filter (keeps ch k U V) (entries b)) es'
        (λ i d low. (filter_passes (keeps ch k U V) (entries b) i d low, All-filter (keeps ch k U V) (NoneHigher ch) (entries b) fits i d low)) z)
        ∙ any-filter_same (fires a (joined ch k U x) (joined ch k V y)) (keeps ch k U V) (eqb (ch a) k) (fires_kept ch k U V x y a) (entries b)

-- so the chapters of a rule book are evaluated as entries
pub evaluates_to_entries : (b : RuleBook) → EvaluatesToEntries b
unfolding cut_book
evaluates_to_entries b =
    record {
      as_book = λ ch k U V. (cut_book b ch k U V, refl, cut_book_evaluated b ch k U V);
      derives = λ ch fit k U V. derives_evaluated b ch k U V fit;
    }
