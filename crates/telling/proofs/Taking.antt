-- A rule book takes all entries that have only points of the book, as long as there is room.
use Rattle.std.proofs.Common.{◌≡◌, ℕ, ◌<◌, ◌≤◌, ◌+◌, Bool, true, false, ◌&&◌, List, [], ◌∷◌, ◌++◌, length, nat_lt, sym, refl, ap, ◌∙◌, inl, inr, arith, Ok, Err, None, append_assoc, append-nil, length-append}
use Rattle.std.specs.List.{AllZip, AllByRecursion, list_all}
use Rattle.std.proofs.lemmas.Bool.{and_parts, cases_lt, le-leb, lt-leb, ltb-true, ne_eqb}
use Rattle.rulings.specs.Points.{Lowest, listed}
use Rattle.books.specs.declared.entry.Entry.{Entry}
use Rattle.books.specs.declared.rule_book.RuleBook.{RuleBook}
use Rattle.books.specs.Lines.{Line, Says}
use Rattle.books.specs.Promise.{Outcome, strays}
use Rattle.books.specs.RuleBook.{entries, Entered, EnterDenied}
use Rattle.telling.specs.Example.{EntersEach}

-- the entry is for a point below n, and names only points below n
abbrev pub Fits : ℕ → Entry → Type 0
Fits n e = (e.point < n) × Lowest (strays n e.supporters e.strikers) None

-- where there is room, a book of size n does not deny it
not_denied : {A : Type 0} (b : RuleBook) (e : Entry) (f : _) → Fits b.size e → length (entries b) < 256 → EnterDenied b e.point e.supporters e.strikers f → A
not_denied b e f (inside, clear) room (inl (is, past)) = absurd (omega arith)
not_denied b e f (inside, clear) room (inr (inl ((s, is, low), here))) = let no = clear s in let yes = low.0 in cc
not_denied b e f (inside, clear) room (inr (inr ((is, full), here, low))) = absurd (omega arith)

pub taken : (b : RuleBook) (es : List Entry) (r : Outcome) (b' : RuleBook) →
    AllByRecursion (Fits b.size) es → length (entries b) + length es ≤ 256 → EntersEach Entered es b r b' →
    (r ≡ Ok tt) × (b'.size ≡ b.size) × (entries b' ≡ entries b ++ es)
taken b [] r b' fit room (done, same) = rw same (done, refl, sym (append-nil (entries b)))
taken b (e ∷ es) r b' (here, fit) room (Err f, mid, (denied, same), rest) = not_denied b e f here (omega arith) denied
taken b (e ∷ es) r b' (here, fit) room (Ok _, mid, (inside, clear, less, size, after), rest) =
    let (done, sized, held) = taken mid es r b' (rw size fit) (omega (arith, ap length after, length-append (entries b) (e ∷ []))) rest in
    (done, sized ∙ size, held ∙ rw after (append_assoc (entries b) (e ∷ []) es))

-- the same of an entry as it is written
abbrev pub line_fits : ℕ → Line → Bool
line_fits n l = nat_lt l.point n && (list_all (λ b. nat_lt b n) l.supporters && list_all (λ b. nat_lt b n) l.strikers)

none_past : (n a : ℕ) (bs : List ℕ) → list_all (λ b. nat_lt b n) bs ≡ true → n ≤ a → listed bs a ≡ false
none_past n a [] h past = refl
none_past n a (b ∷ bs) h past =
    let (low, rest) = and_parts (nat_lt b n) _ h in
    let other = ne_eqb a b (λ e. let less = ltb-true b n low in omega arith) in
    rw (other, none_past n a bs rest past) refl

entry_fits : (n : ℕ) (e : Entry) (l : Line) → Says e l → line_fits n l ≡ true → Fits n e
entry_fits n e l said h =
    let (here, named) = and_parts (nat_lt l.point n) _ h in
    let (supporters, strikers) = and_parts (list_all (λ b. nat_lt b n) l.supporters) _ named in (
      rw said.point (ltb-true l.point n here),
      λ a. elim (cases_lt a n) [
        | inl less ↦ rw (lt-leb n a less) refl
        | inr past ↦
            rw (said.supporters a, said.strikers a, none_past n a l.supporters supporters past, none_past n a l.strikers strikers past, le-leb n a past) refl
      ],
    )

pub each_fits : (n : ℕ) (es : List Entry) (ls : List Line) → AllZip Says es ls → list_all (line_fits n) ls ≡ true → AllByRecursion (Fits n) es
each_fits n [] ls says h = tt
each_fits n (e ∷ es) [] says h = absurd says
each_fits n (e ∷ es) (l ∷ ls) (said, says) h =
    let (first, others) = and_parts (line_fits n l) _ h in
    (entry_fits n e l said first, each_fits n es ls says others)
