-- Every input of bytes reads as some calls, with some ending.
use Rattle.std.proofs.Common.{◌≡◌, ℕ, zero, suc, ◌+◌, ◌<◌, ◌≤◌, ◌⊎◌, List, [], ◌∷◌, ◌++◌, length, get_or, take, drop, Some, None, Ok, Err, sym, refl, ap, ◌∙◌, subst, ap₂, inl, inr, append_assoc, arith, length-append, length-drop, take-append-drop, length-take, get_or-drop, get_or-take, get_or-append-add, take-add}
use Rattle.std.specs.List.{ContainsAt}
use Rattle.std.proofs.lemmas.List.{get_or_past}
use Rattle.std.proofs.lemmas.Bool.{cases_lt, cases_eq}
use Rattle.rulings.specs.declared.ruling.Ruling.{Ruling}
use Rattle.runs.specs.declared.call.Call.{Call}
use Rattle.runs.specs.declared.call.Call.TheVariants as call
use Rattle.reader.specs.declared.kind.Kind.{Kind}
use Rattle.reader.specs.declared.kind.Kind.TheVariants as kind
use Rattle.reader.specs.declared.unreadable.Unreadable.TheVariants as unreadable
use Rattle.reader.specs.Records.{Front, kind_byte, body_length, kind_of, body_of, OfByte, record_of, records_of, Lends64, AtFront, Ends, ReadsAs, ReadsSomeWay}
use Rattle.reader.proofs.Encodings.{of_byte, of_kind_byte}

abbrev Bytes : List ℕ → Type 0
Bytes xs = (i : ℕ) → get_or xs i 0 < 256

bytes_behind : (n : ℕ) (xs : List ℕ) → Bytes xs → Bytes (drop n xs)
bytes_behind n xs h i = omega (arith, get_or-drop n xs i 0, h (n + i))

bytes_after : (xs ys : List ℕ) → Bytes (xs ++ ys) → Bytes ys
bytes_after xs ys h i = omega (arith, get_or-append-add xs ys i 0, h (length xs + i))

ruling_from : (xs : List ℕ) → 16 ≤ length xs → Bytes xs → (r : Ruling) × (r.bytes ≡ take 16 xs)
ruling_from xs long h = (record { bytes = take 16 xs; long = omega (arith, length-take 16 xs); each = each }, refl)
  where
    each : (i : ℕ) → get_or (take 16 xs) i 0 < 256
    each i =
        elim (cases_lt i 16) [
          | inl l ↦ omega (arith, get_or-take 16 xs i 0 l, h i)
          | inr l ↦ omega (arith, get_or_past (take 16 xs) i 0 (omega (arith, length-take 16 xs)))
        ]

-- the kind of a byte, if there is one
some_kind : (b : ℕ) → ((k : Kind) × (kind_byte k ≡ b)) ⊎ OfByte b (Err unreadable.Unknown)
some_kind b =
    elim (cases_eq (kind_byte (of_byte b)) b) [
      | inl e ↦ inl (of_byte b, e)
      | inr n ↦ inr (λ k e. n (ap kind_byte (ap of_byte (sym e) ∙ of_kind_byte k) ∙ e))
    ]

-- a call of a kind, from bytes that are enough
abbrev CallFrom : Kind → List ℕ → Type 0
CallFrom k xs = (c : Call) × Lends64 c × (kind_of c ≡ k) × (body_of c ≡ take (body_length k) xs)

call_from : (k : Kind) (xs : List ℕ) → body_length k ≤ length xs → Bytes xs → CallFrom k xs
call_from kind.Open [] l h = absurd (omega arith)
call_from kind.Open (x ∷ xs) l h = (call.Open x, tt, refl, refl)
call_from kind.Enter [] l h = absurd (omega arith)
call_from kind.Enter (x ∷ xs) l h =
    let p = ruling_from xs (omega arith) (λ i. h (suc i)) in
    let q = ruling_from (drop 16 xs) (omega (arith, length-drop 16 xs)) (bytes_behind 16 xs (λ i. h (suc i))) in
    (call.Enter x p.0 q.0, tt, refl, ap₂ (λ (us vs : List ℕ). x ∷ us ++ vs) p.1 q.1 ∙ ap (λ (us : List ℕ). x ∷ us) (sym (take-add 16 16 xs)))
call_from kind.Withdraw [] l h = absurd (omega arith)
call_from kind.Withdraw (x ∷ xs) l h = (call.Withdraw x, tt, refl, refl)
call_from kind.Place [] l h = absurd (omega arith)
call_from kind.Place (x ∷ []) l h = absurd (omega arith)
call_from kind.Place (x ∷ (y ∷ xs)) l h = (call.Place x y, tt, refl, refl)
call_from kind.Judge xs l h = let p = ruling_from xs l h in (call.Judge p.0, tt, refl, p.1)
call_from kind.JudgeByChapter xs l h = let p = ruling_from xs l h in (call.JudgeByChapter p.0, tt, refl, p.1)
call_from kind.Read xs l h = (call.Read, tt, refl, refl)
call_from kind.List xs l h = (call.List 64, refl, refl, refl)
call_from kind.Audit xs l h = (call.Audit 64, refl, refl, refl)

-- something stands at the front
some_front : (xs : List ℕ) → Bytes xs → (f : Front) × AtFront xs f
some_front [] h = (Ok None, refl)
some_front (b ∷ xs) h =
    elim (some_kind b) [
      | inl (k, e) ↦ elim (cases_lt (length xs) (body_length k)) [
        | inl short ↦ (Err unreadable.Cut, (k, xs, ap (λ (n : ℕ). n ∷ xs) (sym e), short))
        | inr long ↦ whole k e (call_from k xs long (λ i. h (suc i)))
      ]
      | inr none ↦ (Err unreadable.Unknown, (b, xs, refl, none))
    ]
  where
    whole : (k : Kind) → kind_byte k ≡ b → CallFrom k xs → (f : Front) × AtFront (b ∷ xs) f
    whole k e (c, lends, of_kind, body) = (
      Ok (Some (record { call = c; length = length (record_of c) })),
      (
        lends,
        refl,
        (
          drop (body_length k) xs,
          ap₂ (λ (n : ℕ) (us : List ℕ). n ∷ us) (sym e ∙ ap kind_byte (sym of_kind))
              (sym (take-append-drop (body_length k) xs) ∙ ap (λ (us : List ℕ). us ++ drop (body_length k) xs) (sym body)),
        ),
      ),
    )

abbrev ReadsSomehow : List ℕ → Type 0
ReadsSomehow input = (cs : List Call) × (e : Front) × ReadsAs input cs e

nothing_read : (xs : List ℕ) (e : Front) → AtFront xs e → Ends e → ReadsSomehow xs
nothing_read xs e a ends = ([], e, record { lends = λ c h. absurd (omega (arith, h.1)); tail = xs; bytes = refl; at_tail = a; ends = ends })

one_more : (xs rest : List ℕ) (c : Call) → Lends64 c → xs ≡ record_of c ++ rest → ReadsSomehow rest → ReadsSomehow xs
one_more xs rest c l e (cs, f, r) = (
  c ∷ cs,
  f,
  record {
    lends = lends;
    tail = r.tail;
    bytes = e ∙ ap (λ (us : List ℕ). record_of c ++ us) r.bytes ∙ sym (append_assoc (record_of c) (records_of cs) r.tail);
    at_tail = r.at_tail;
    ends = r.ends;
  },
)
  where
    lends : (d : Call) → ContainsAt (c ∷ cs) d → Lends64 d
    lends d (zero, _, at) = subst Lends64 (at c) l
    lends d (suc i, within, at) = r.lends d (i, omega arith, at)

reads : (n : ℕ) (xs : List ℕ) → length xs ≤ n → Bytes xs → ReadsSomehow xs
reads zero [] l h = nothing_read [] (Ok None) refl tt
reads zero (x ∷ xs) l h = absurd (omega arith)
reads (suc n) xs l h = go (some_front xs h) (reads n)
  where
    go : (f : Front) × AtFront xs f → ((ys : List ℕ) → length ys ≤ n → Bytes ys → ReadsSomehow ys) → ReadsSomehow xs
    go (Ok None, a) again = nothing_read xs (Ok None) a tt
    go (Ok (Some r), (lends, _, (rest, e))) again =
        one_more xs rest r.call lends e
        (again rest (omega (arith, ap length e, length-append (body_of r.call) rest)) (bytes_after (record_of r.call) rest (subst Bytes e h)))
    go (Err why, a) again = nothing_read xs (Err why) a tt

pub reads_some_way : ReadsSomeWay
reads_some_way input h = reads (length input) input (omega arith) h
