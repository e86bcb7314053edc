-- Gathering the upward readings pair by pair, and what is left to gather where the rows do not suffice.
use Rattle.std.proofs.Common.{◌≡◌, ℕ, zero, suc, ◌+◌, ◌-◌, ◌<◌, ◌≤◌, true, false, ◌⊎◌, Some, List, [], length, take, drop, sym, refl, ap, ◌∙◌, subst, inl, inr, arith}
use Rattle.std.specs.List.{ContainsAt}
use Rattle.std.proofs.lemmas.List.{length-take-le}
use Rattle.std.proofs.lemmas.Bool.{cases_lt, cases_Bool, and_parts}
use Rattle.rows.specs.Rows.{StrictlyInOrder, PutIn, Inserted}
use Rattle.rows.proofs.Putting.{put_length, put_has_row, put_keeps, put_adds_only, put_strictly, put_among, inserted_first, inserted_later, same_later}
use Rattle.semantics.specs.Meaning.{Meaning, Lawful}
use Rattle.semantics.proofs.Tests.{false_is_not_true}
use Rattle.answers.specs.declared.audit.UpwardReading.{UpwardReading}
use Rattle.answers.specs.AuditRows.{AuditedBefore}
use Rattle.marker.specs.Audit.{AllUpward, reading_row, MoreUpward}
use Rattle.chapters.specs.Fitting.{upward}
use Rattle.answers.specs.AuditOrder.{audit_order}

-- the pair (a, b) is gone through before the pair (i, j)
abbrev pub PairBefore : ℕ → ℕ → ℕ → ℕ → Type 0
PairBefore i j a b = (a < i) ⊎ ((a ≡ i) × (b < j))

-- the rows are all the upward readings of the pairs before (i, j), each once, in their order
pub record Gathered (m : Meaning) (ch : ℕ → ℕ) (i j : ℕ) (rows : List UpwardReading) : Type 0 where
  pub upward_only : (r : UpwardReading) → ContainsAt rows r → (a : ℕ) × (b : ℕ) × PairBefore i j a b × (upward m ch a b ≡ true) × (r ≡ reading_row ch a b)
  pub each_there : (a b : ℕ) → PairBefore i j a b → upward m ch a b ≡ true → ContainsAt rows (reading_row ch a b)
  pub in_order : StrictlyInOrder AuditedBefore rows

-- an audit under way: the first n rows are such, and the later ones are as found
pub record Gathering (m : Meaning) (ch : ℕ → ℕ) (i j : ℕ) (found rows : List UpwardReading) (n : ℕ) : Type 0 where
  pub within : n ≤ length rows
  pub first : Gathered m ch i j (take n rows)
  pub later : drop n rows ≡ drop n found

-- a pair before (i, j + 1) is before (i, j), or it is (i, j)
last_pair : (i j a b : ℕ) → PairBefore i (j + 1) a b → PairBefore i j a b ⊎ ((i ≡ a) × (j ≡ b))
last_pair i j a b (inl h) = inl (inl h)
last_pair i j a b (inr (e, h)) =
    elim (cases_lt b j) [
      | inl l ↦ inl (inr (e, l))
      | inr l ↦ inr (sym e, omega arith)
    ]

one_more : (i j a b : ℕ) → PairBefore i j a b → PairBefore i (j + 1) a b
one_more i j a b (inl h) = inl h
one_more i j a b (inr (e, h)) = inr (e, omega arith)

not_before_itself : (i j a b : ℕ) → i ≡ a → j ≡ b → PairBefore i j a b → ⊥
not_before_itself i j a b e f (inl h) = omega arith
not_before_itself i j a b e f (inr (g, h)) = omega arith

module _ (m : Meaning) (ch : ℕ → ℕ) where
  gathered_none : Gathered m ch 0 0 []
  gathered_none =
      record {
        upward_only = λ r (k, h, is). absurd (omega arith);
        each_there = λ a b p u. absurd (none a b p);
        in_order = λ i j d h k. absurd (omega arith);
      }
    where
      none : (a b : ℕ) → PairBefore 0 0 a b → ⊥
      none a b (inl h) = omega arith
      none a b (inr (e, h)) = omega arith

  module _ (i j : ℕ) (xs : List UpwardReading) (g : Gathered m ch i j xs) where
    -- the row of the next pair is not there yet
    absent : ContainsAt xs (reading_row ch i j) → ⊥
    absent h =
        let (a, b, p, u, e) = g.upward_only (reading_row ch i j) h in
        not_before_itself i j a b (ap (λ (r : UpwardReading). r.reader) e) (ap (λ (r : UpwardReading). r.read) e) p

    -- the next pair reads upward, and its row is put in
    gathered_more_in : (ys : List UpwardReading) → upward m ch i j ≡ true → PutIn AuditedBefore (reading_row ch i j) xs ys → Gathered m ch i (j + 1) ys
    gathered_more_in ys up put =
        record {
          upward_only = λ r h. elim (put_adds_only AuditedBefore (reading_row ch i j) xs ys put r h) [
            | inl k ↦ let (a, b, p, u, e) = g.upward_only r k in (a, b, one_more i j a b p, u, e)
            | inr e ↦ (i, j, inr (refl, omega arith), up, sym e)
          ];
          each_there = λ a b p u. elim (last_pair i j a b p) [
            | inl q ↦ put_keeps AuditedBefore (reading_row ch i j) xs ys put (reading_row ch a b) (g.each_there a b q u)
            | inr (e, f) ↦ rw (← e, ← f) (put_has_row AuditedBefore (reading_row ch i j) xs ys put)
          ];
          in_order = put_strictly AuditedBefore audit_order (reading_row ch i j) xs ys put g.in_order absent;
        }

    -- the next pair does not read upward
    gathered_more_out : upward m ch i j ≡ false → Gathered m ch i (j + 1) xs
    gathered_more_out out =
        record {
          upward_only = λ r h. let (a, b, p, u, e) = g.upward_only r h in (a, b, one_more i j a b p, u, e);
          each_there = λ a b p u. elim (last_pair i j a b p) [
            | inl q ↦ g.each_there a b q u
            | inr (e, f) ↦ false_is_not_true (sym out ∙ rw (e, f) u)
          ];
          in_order = g.in_order;
        }

  pub gathering_none : (rows : List UpwardReading) → Gathering m ch 0 0 rows rows 0
  gathering_none rows = record { within = omega arith; first = gathered_none; later = refl }

  -- one more pair
  module _ (i j : ℕ) (found rows : List UpwardReading) (n : ℕ) (g : Gathering m ch i j found rows n) where
    pub gathering_in : (low high k : ℕ) (left : List UpwardReading)
        → low ≡ ch i → high ≡ ch j → true ≡ upward m ch i j → length left ≡ length rows
        → Inserted AuditedBefore rows n (record { drop = high - low; reader = i; read = j }) (Some k) left → Gathering m ch i (j + 1) found left k
    gathering_in low high k left low_is high_is up same inserted =
        let row : UpwardReading = record { drop = high - low; reader = i; read = j } in
        let is : row ≡ reading_row ch i j = rw (low_is, high_is) refl in
        let put = subst (λ (r : UpwardReading). PutIn AuditedBefore r (take n rows) (take (n + 1) left)) is (inserted_first AuditedBefore row rows n left k inserted) in
        let room = inserted.0 in
        subst (Gathering m ch i (j + 1) found left) (sym inserted.2) (record {
          within = omega arith;
          first = gathered_more_in i j (take n rows) g.first (take (n + 1) left) (sym up) put;
          later = inserted_later AuditedBefore row rows n left k inserted ∙ same_later n (n + 1) rows found (omega arith) g.later;
        })

    pub gathering_out : false ≡ upward m ch i j → Gathering m ch i (j + 1) found rows n
    gathering_out out = record { within = g.within; first = gathered_more_out i j (take n rows) g.first (sym out); later = g.later }

  module _ (l : Lawful m) where
    -- a reader is done with once all points of the book are gone through
    gathered_next : (i n : ℕ) (xs : List UpwardReading) → m.size ≤ n → Gathered m ch i n xs → Gathered m ch (i + 1) 0 xs
    gathered_next i n xs all g =
        record {
          upward_only = λ r h. let (a, b, p, u, e) = g.upward_only r h in (a, b, inl (lower a b p), u, e);
          each_there = λ a b p u. g.each_there a b (within a b p (l.reads_inside a b (and_parts (m.reads a b) _ u).0).1) u;
          in_order = g.in_order;
        }
      where
        lower : (a b : ℕ) → PairBefore i n a b → a < i + 1
        lower a b (inl h) = omega arith
        lower a b (inr (e, h)) = omega arith

        within : (a b : ℕ) → PairBefore (i + 1) 0 a b → b < m.size → PairBefore i n a b
        within a b (inr (e, h)) k = absurd (omega arith)
        within a b (inl h) k =
            elim (cases_lt a i) [
              | inl lt ↦ inl lt
              | inr ge ↦ inr (omega arith, omega arith)
            ]

    pub gathering_next : (i j : ℕ) (found rows : List UpwardReading) (n : ℕ) → m.size ≤ j → Gathering m ch i j found rows n → Gathering m ch (i + 1) 0 found rows n
    gathering_next i j found rows n all g = record { within = g.within; first = gathered_next i j (take n rows) all g.first; later = g.later }

    -- and the audit is done once all readers are
    pub gathered_all : (n : ℕ) (xs : List UpwardReading) → m.size ≤ n → Gathered m ch n 0 xs → AllUpward m ch xs
    gathered_all n xs all g =
        record {
          upward_only = λ r h. let (a, b, p, u, e) = g.upward_only r h in (a, b, u, e);
          each_there = λ a b u. g.each_there a b (inl (omega (arith, (l.reads_inside a b (and_parts (m.reads a b) _ u).0).0))) u;
          in_order = g.in_order;
        }

    step : (i j : ℕ) (xs : List UpwardReading) → Gathered m ch i j xs → (ys : List UpwardReading) × Gathered m ch i (j + 1) ys × (length xs ≤ length ys)
    step i j xs g =
        elim (cases_Bool (upward m ch i j)) [
          | inl up ↦
              let (ys, put) = put_among AuditedBefore audit_order (reading_row ch i j) xs in
              (ys, gathered_more_in i j xs g ys up put, omega (arith, put_length AuditedBefore (reading_row ch i j) xs ys put))
          | inr out ↦ (xs, gathered_more_out i j xs g out, omega arith)
        ]

    reader_rest : (k i j : ℕ) (xs : List UpwardReading) → m.size ≤ j + k → Gathered m ch i j xs
        → (ys : List UpwardReading) × Gathered m ch (i + 1) 0 ys × (length xs ≤ length ys)
    reader_rest zero i j xs all g = (xs, gathered_next i j xs (omega arith) g, omega arith)
    reader_rest (suc k) i j xs all g =
        let (ys, h, more) = step i j xs g in
        let (zs, f, most) = reader_rest k i (j + 1) ys (omega arith) h in
        (zs, f, omega arith)

    all_rest : (k i : ℕ) (xs : List UpwardReading) → m.size ≤ i + k → Gathered m ch i 0 xs
        → (ys : List UpwardReading) × AllUpward m ch ys × (length xs ≤ length ys)
    all_rest zero i xs all g = (xs, gathered_all i xs (omega arith) g, omega arith)
    all_rest (suc k) i xs all g =
        let (ys, h, more) = reader_rest m.size i 0 xs (omega arith) g in
        let (zs, f, most) = all_rest k (i + 1) ys (omega arith) h in
        (zs, f, omega arith)

    more_upward : (i j : ℕ) (xs : List UpwardReading) → Gathered m ch i j xs → upward m ch i j ≡ true → MoreUpward m ch (length xs)
    more_upward i j xs g up =
        let (ys, put) = put_among AuditedBefore audit_order (reading_row ch i j) xs in
        let (zs, h, more) = reader_rest m.size i (j + 1) ys (omega arith) (gathered_more_in i j xs g ys up put) in
        let (all, f, most) = all_rest m.size (i + 1) zs (omega arith) h in
        (all, f, omega (arith, put_length AuditedBefore (reading_row ch i j) xs ys put))

    -- an upward reading that finds no room means that there are more of them than rows
    pub no_room : (i j : ℕ) (found rows : List UpwardReading) (n : ℕ) → Gathering m ch i j found rows n → true ≡ upward m ch i j → length rows ≤ n → MoreUpward m ch (length rows)
    no_room i j found rows n g up full =
        let same : n ≡ length rows = omega arith in
        let (all, f, more) = more_upward i j (take n rows) g.first (sym up) in
        (all, f, omega (arith, length-take-le n rows g.within))
