-- From the bytes that were read, which may be a beginning of what the reader had left, to all that it had left.
use Rattle.std.proofs.Common.{◌≡◌, ℕ, List, [], ◌++◌, length, take, drop, Some, None, Ok, Err, Option, Result, IfSome, OnOk, MatchResult, sym, refl, ap, ◌∙◌, subst, inl, inr, append_assoc, arith}
use Rattle.std.specs.Option.{option_map}
use Rattle.std.proofs.lemmas.List.{length-take, take-append-drop, take_all}
use Rattle.std.specs.Io.KnownBytes.{Appends, Keeps}
use Rattle.std.specs.Io.Take.{take_limit, take_inner, take_remaining}
use Rattle.std.specs.declared.io.traits.Take.{Take}
use Rattle.books.specs.declared.book.Book.{Ghosts as Sort}
use Rattle.marker.specs.declared.marker.Marker.{Marker}
use Rattle.reader.specs.Records.{records_of}
use Rattle.reader.specs.Streams.{ServedSoFar}
use Rattle.reader.specs.StreamLaw.{Served}
use Rattle.reader.proofs.Streaming.{not_begun}
use Rattle.service.specs.Serving.{ServedThrough, ServedInPart}

pub if_mapped : {A B : Type 0} (f : A → B) (P : B → Type 0) (o : Option A) → IfSome (option_map f o) P → IfSome o (λ a. P (f a))
if_mapped f P None h = h
if_mapped f P (Some a) h = h

-- a reader of so many bytes at the most, read to its end
pub read_as : {R : Type 0} (remaining : R → Option (List ℕ)) (t : Take R) (r : R) (n : ℕ) (before after : List ℕ) → take_limit t ≡ n → take_inner t ≡ r → before ≡ [] →
    IfSome (take_remaining remaining t) (λ xs. after ≡ before ++ xs) → IfSome (remaining r) (λ xs. after ≡ take n xs)
read_as remaining t r n before after limit inner none h =
    subst (λ m. IfSome (remaining r) (λ xs. after ≡ take m xs)) limit
    (subst (λ x. IfSome (remaining x) (λ xs. after ≡ take (take_limit t) xs)) inner
    (if_mapped (take (take_limit t)) (λ xs. after ≡ xs) (remaining (take_inner t)) (subst (λ ys. IfSome (take_remaining remaining t) (λ xs. after ≡ ys ++ xs)) none h)))

kept : (held : Option (List ℕ)) → Keeps held held
kept None = tt
kept (Some xs) = refl

module _ {B : Type 0} (S : Sort B) (start : Marker B) where
  -- nothing was done
  pub untouched : (left held : Option (List ℕ)) → ServedInPart S start left held held start
  untouched None held = record { input = []; read = tt; served = inl (not_begun S start [], kept held) }
  untouched (Some xs) held = record { input = xs; read = refl; served = inl (not_begun S start xs, kept held) }

  module _ (end : Marker B) (read : List ℕ) where
    -- the first calls of a beginning are the first of the whole
    first_of_whole : (xs : List ℕ) → read ≡ take 32769 xs → ServedSoFar S start read end → ServedSoFar S start xs end
    first_of_whole xs e (calls, answers, (lends, (rest, bytes)), h) =
        let all : xs ≡ records_of calls ++ (rest ++ drop 32769 xs) =
        sym (take-append-drop 32769 xs) ∙ ap (λ ys. ys ++ drop 32769 xs) (sym e ∙ bytes) ∙ append_assoc (records_of calls) rest (drop 32769 xs) in
        (calls, answers, (lends, (rest ++ drop 32769 xs, all)), h)

    -- where memory ran out
    pub in_part : (left held : Option (List ℕ)) → IfSome left (λ xs. read ≡ take 32769 xs) → ServedSoFar S start read end → ServedInPart S start left held held end
    in_part None held e w = record { input = read; read = tt; served = inl (w, kept held) }
    in_part (Some xs) held e w = record { input = xs; read = refl; served = inl (first_of_whole xs e w, kept held) }

    -- an input that is served is the whole, or both are too long
    whole : (xs output : List ℕ) → read ≡ take 32769 xs → Served S start read output end → Served S start xs output end
    whole xs output e (inl (long, out, same)) = inl (omega (arith, ap length e, length-take 32769 xs, long), out, same)
    whole xs output e (inr w) = subst (λ ys. Served S start ys output end) (e ∙ take_all 32769 xs (omega (arith, ap length e, length-take 32769 xs, w.0))) (inr w)

    -- by whether the writing went well
    pub written : {T E : Type 0} (r : Result T E) (left held held' : Option (List ℕ)) (output : List ℕ) → IfSome left (λ xs. read ≡ take 32769 xs) →
        Served S start read output end → OnOk r (Appends held held' output) →
        MatchResult r (λ _. ServedThrough S start left held held' end) (λ _. ServedInPart S start left held held' end)
    written (Ok _) None held held' output e w wrote = record { input = read; output = output; read = tt; served = w; wrote = wrote }
    written (Ok _) (Some xs) held held' output e w wrote = record { input = xs; output = output; read = refl; served = whole xs output e w; wrote = wrote }
    written (Err _) None held held' output e w wrote = record { input = read; read = tt; served = inr (output, w) }
    written (Err _) (Some xs) held held' output e w wrote = record { input = xs; read = refl; served = inr (output, whole xs output e w) }
