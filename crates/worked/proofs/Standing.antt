-- There are books that are so written, and tables of chapters.
use Rattle.std.specs.List.{list_all, AllZip, range_with_len}
use Rattle.std.proofs.Common.{◌≡◌, ℕ, ◌-◌, ◌<◌, ◌≤◌, Bool, true, false, cond, ◌&&◌, eqb, ltb, leb, ◌⊎◌, List, [], ◌∷◌, ◌++◌, map, length, get_or, slice_index_or, Option, Some, None, is_some, replicate, sym, refl, ap, ◌∙◌, inl, inr, arith, ltb-true, le-ltb, lt-ltb, eqb-true, leb-true}
use mathlib.Core.Path.{fun_ext}
use Rattle.std.proofs.lemmas.List.FromFn.{length-map-range_with_len, get_or-map-range_with_len}
use Rattle.std.proofs.lemmas.List.{length-map, get_or_past, get_or_append_left, get_or-append_right, get_or-replicate}
use Rattle.std.proofs.lemmas.Bool.{cases_lt, and_parts, or_cases, false_from_ne_true}
use Rattle.std.proofs.lemmas.List.Sums.{AllPass-from_list_all}
use Rattle.std.proofs.lemmas.List.Elements.{All-map}
use Rattle.std.specs.Option.{option_map_or}
use Rattle.rulings.specs.Points.{Points, listed}
use Rattle.rulings.specs.Rulings.{has}
use Rattle.rulings.specs.declared.ruling.Ruling.{Ruling}
use Rattle.semantics.proofs.Tests.{false_is_not_true}
use Rattle.semantics.proofs.RulingOf.{ruling_of, ruling_of_same}
use Rattle.books.specs.declared.entry.Entry.{Entry}
use Rattle.books.specs.declared.rule_book.RuleBook.{RuleBook}
use Rattle.books.specs.declared.protesters.Protesters.{Protesters as Rows}
use Rattle.books.specs.declared.protest_book.ProtestBook.{ProtestBook}
use Rattle.books.specs.Entries.{names}
use Rattle.books.specs.RuleBook.{entry}
use Rattle.books.specs.Protesters.{row, is_lodged, protesters_of}
use Rattle.chapters.specs.Table.{chapter_of}
use Rattle.books.specs.Lines.{Line}
use Rattle.worked.specs.Books.{Is, Rules, protested, Protests, chapters, TablesPlace}
use Rattle.worked.proofs.Checks.{within, within_use}

-- the ruling of a list of points below n, where n is at most 128
pointed : (n : ℕ) → n ≤ 128 → (ps : List ℕ) → within n ps ≡ true → has (ruling_of (listed ps)) ≡ listed ps
pointed n most ps h = ruling_of_same (listed ps) (λ a e. let i = within_use n ps h a e in omega arith)

-- ---- rules

abbrev pub line_inside : ℕ → Line → Bool
line_inside n l = ltb l.point n && (within n l.supporters && within n l.strikers)

abbrev pub rules_inside : ℕ → List Line → Bool
rules_inside n ls = leb 1 n && (leb n 128 && (leb (length ls) 256 && list_all (line_inside n) ls))

entry_of : Line → Entry
entry_of l = entry l.point (ruling_of (listed l.supporters)) (ruling_of (listed l.strikers))

module _ (n : ℕ) (most : n ≤ 128) where
  -- one line that is inside, and its entry
  module _ (l : Line) (inside : line_inside n l ≡ true) where
    entry_low : (entry_of l).point < n
    unfolding entry_of
    entry_low = ltb-true l.point n (and_parts (ltb l.point n) _ inside).0

    within_both : (within n l.supporters ≡ true) × (within n l.strikers ≡ true)
    within_both = and_parts (within n l.supporters) _ (and_parts (ltb l.point n) _ inside).1

    entry_is : Is (entry_of l) l
    unfolding entry_of
    entry_is = record { point = refl; supporters = pointed n most l.supporters within_both.0; strikers = pointed n most l.strikers within_both.1 }

    names_inside : (b : ℕ) → names (entry_of l) b ≡ true → b < n
    names_inside b h = elim (or_cases (has (entry_of l).supporters b) _ h) [
      | inl e ↦ within_use n l.supporters within_both.0 b (sym (ap (λ (x : Points). x b) entry_is.supporters) ∙ e)
      | inr e ↦ within_use n l.strikers within_both.1 b (sym (ap (λ (x : Points). x b) entry_is.strikers) ∙ e)
    ]

  entries_are : (ls : List Line) → list_all (line_inside n) ls ≡ true → AllZip Is (map entry_of ls) ls
  entries_are [] h = tt
  entries_are (l ∷ ls) h =
      let (here, rest) = and_parts (line_inside n l) _ h in
      (entry_is l here, entries_are ls rest)

pub some_rules : (n : ℕ) (ls : List Line) → rules_inside n ls ≡ true → (b : RuleBook) × Rules n ls b
some_rules n ls h =
    let p = and_parts (leb 1 n) _ h in
    let q = and_parts (leb n 128) _ p.1 in
    let r = and_parts (leb (length ls) 256) _ q.1 in
    let inside = r.1 in
    let each = AllPass-from_list_all (line_inside n) ls inside in
    let most = leb-true n 128 q.0 in (
      record {
        size = n;
        table = record { entries = record { items = map entry_of ls } };
        least = leb-true 1 n p.0;
        most = most;
        room = omega (arith, length-map ls entry_of, leb-true (length ls) 256 r.0);
        heads = All-map (λ (e : Entry). e.point < n) entry_of ls (λ k l i. entry_low n most (slice_index_or ls k l) (each k l i));
        bodies = All-map (λ (e : Entry). (b : ℕ) → names e b ≡ true → b < n) entry_of ls (λ k l i. names_inside n most (slice_index_or ls k l) (each k l i));
      },
      record { sized = refl; written = entries_are n most ls inside },
    )

-- ---- protests

-- a protest is by a point below n against a point that is lodged
abbrev pub protest_inside : ℕ → List ℕ → ℕ × ℕ → Bool
protest_inside n points p = ltb p.0 n && listed points p.1

abbrev pub protests_inside : ℕ → List ℕ → List (ℕ × ℕ) → Bool
protests_inside n points pairs = leb 1 n && (leb n 128 && (within n points && list_all (protest_inside n points) pairs))

protested_inside : (n : ℕ) (points : List ℕ) (pairs : List (ℕ × ℕ)) → list_all (protest_inside n points) pairs ≡ true →
    (a c : ℕ) → protested pairs a c ≡ true → (listed points a ≡ true) × (c < n)
protested_inside n points [] h a c e = false_is_not_true e
protested_inside n points (p ∷ ps) h a c e = go (and_parts (protest_inside n points p) _ h) (or_cases (eqb c p.0 && eqb a p.1) _ e) (protested_inside n points ps)
  where
    go : (protest_inside n points p ≡ true) × (list_all (protest_inside n points) ps ≡ true) →
        (eqb c p.0 && eqb a p.1 ≡ true) ⊎ (protested ps a c ≡ true) →
        (list_all (protest_inside n points) ps ≡ true → (a c : ℕ) → protested ps a c ≡ true → (listed points a ≡ true) × (c < n)) →
        (listed points a ≡ true) × (c < n)
    go q (inl s) ih =
        let both = and_parts (ltb p.0 n) _ q.0 in
        let at = and_parts (eqb c p.0) _ s in
        let by : c ≡ p.0 = eqb-true c p.0 at.0 in
        let below = ltb-true p.0 n both.0 in
        (ap (listed points) (eqb-true a p.1 at.1) ∙ both.1, omega arith)
    go q (inr s) ih = ih q.1 a c s

-- the row of a point: its protesters, if it is lodged
row_of : List ℕ → List (ℕ × ℕ) → ℕ → Option Ruling
row_of points pairs a = cond (listed points a) (Some (ruling_of (protested pairs a))) None

rows_of : List ℕ → List (ℕ × ℕ) → Rows
rows_of points pairs = record { rows = map (row_of points pairs) (range_with_len 0 128) }

module _ (n : ℕ) (most : n ≤ 128) (points : List ℕ) (low : within n points ≡ true) (pairs : List (ℕ × ℕ))
    (inside : list_all (protest_inside n points) pairs ≡ true) where
  -- a point past the table is not lodged, so each row is as it is to be
  row_is : (a : ℕ) → row (rows_of points pairs) a ≡ row_of points pairs a
  unfolding rows_of row_of
  row_is a = elim (cases_lt a 128) [ inl l ↦ here l | inr l ↦ past l ]
    where
      here : a < 128 → row (rows_of points pairs) a ≡ row_of points pairs a
      here l = get_or-map-range_with_len (row_of points pairs) 0 128 a a None l (omega arith)

      past : 128 ≤ a → row (rows_of points pairs) a ≡ row_of points pairs a
      past l =
          get_or_past (map (row_of points pairs) (range_with_len 0 128)) a None (omega (arith, length-map-range_with_len (row_of points pairs) 0 128))
          ∙ sym (ap (λ (t : Bool). cond t (Some (ruling_of (protested pairs a))) None)
          (false_from_ne_true (listed points a) (λ e. let i = within_use n points low a e in absurd (omega arith))))

  lodging_is : is_lodged (rows_of points pairs) ≡ listed points
  unfolding row_of
  lodging_is = fun_ext (λ a. ap (λ (r : Option Ruling). is_some r) (row_is a) ∙ there (ruling_of (protested pairs a)) (listed points a))
    where
      there : (r : Ruling) (t : Bool) → is_some (cond t (Some r) None) ≡ t
      there r true = refl
      there r false = refl

  protests_are : (a c : ℕ) → protesters_of (rows_of points pairs) a c ≡ protested pairs a c
  unfolding row_of
  protests_are a c = ap (λ (r : Option Ruling). option_map_or has r (λ _. false) c) (row_is a) ∙ among (listed points a) refl
    where
      is : has (ruling_of (protested pairs a)) ≡ protested pairs a
      is = ruling_of_same (protested pairs a) (λ d e. let i = (protested_inside n points pairs inside a d e).1 in omega arith)

      among : (t : Bool) → listed points a ≡ t → option_map_or has (cond t (Some (ruling_of (protested pairs a))) None) (λ _. false) c ≡ protested pairs a c
      among true e = ap (λ (x : Points). x c) is
      among false e = sym (false_from_ne_true (protested pairs a c) (λ h. false_is_not_true (sym e ∙ (protested_inside n points pairs inside a c h).0)))

pub some_protests : (n : ℕ) (points : List ℕ) (pairs : List (ℕ × ℕ)) → protests_inside n points pairs ≡ true → (b : ProtestBook) × Protests n points pairs b
some_protests n points pairs h =
    let p = and_parts (leb 1 n) _ h in
    let q = and_parts (leb n 128) _ p.1 in
    let r = and_parts (within n points) _ q.1 in
    let most = leb-true n 128 q.0 in
    let lodging = lodging_is n most points r.0 pairs r.1 in
    let protests = protests_are n most points r.0 pairs r.1 in (
      record {
        size = n;
        protesters = rows_of points pairs;
        least = leb-true 1 n p.0;
        most = most;
        arguments = λ a e. within_use n points r.0 a (sym (ap (λ (x : Points). x a) lodging) ∙ e);
        attackers = λ a c e. (protested_inside n points pairs r.1 a c (sym (protests a c) ∙ e)).1;
      },
      record { sized = refl; lodging = lodging; protests = protests },
    )

-- ---- chapters

pub tables_place : TablesPlace
tables_place c ks few e = fun_ext (λ a. elim (cases_lt a 128) [ inl l ↦ here a l | inr l ↦ past a l ])
  where
    listed_place : (a : ℕ) → a < 128 → get_or (ks ++ replicate (128 - length ks) 0) a 0 ≡ get_or ks a 0
    listed_place a l =
        elim (cases_lt a (length ks)) [
          | inl i ↦ get_or_append_left ks (replicate (128 - length ks) 0) 0 a i
          | inr i ↦ get_or-append_right ks (replicate (128 - length ks) 0) (length ks) a 0 refl i
              ∙ (get_or-replicate (128 - length ks) (a - length ks) 0 0 (omega arith) ∙ sym (get_or_past ks a 0 i))
        ]

    here : (a : ℕ) → a < 128 → chapter_of c a ≡ chapters ks a
    here a l =
        ap (λ (t : Bool). cond t (get_or c.numbers a 0) 0) (lt-ltb a 128 l)
        ∙ (ap (λ (xs : List ℕ). get_or xs a 0) e ∙ listed_place a l)

    past : (a : ℕ) → 128 ≤ a → chapter_of c a ≡ chapters ks a
    past a l = ap (λ (t : Bool). cond t (get_or c.numbers a 0) 0) (le-ltb a 128 l) ∙ sym (get_or_past ks a 0 (omega arith))
