-- Replies under way: bytes added, and the buffer once it is given back.
use Rattle.std.proofs.Common.{◌≡◌, ℕ, List, [], ◌++◌, sym, ◌∙◌, subst, append_assoc, append-nil}
use Rattle.reader.specs.declared.reply.Reply.{Reply}
use Rattle.reader.specs.Writing.{WroteAll, Holds, Adds}

-- no bytes added; and bytes added behind bytes added
pub adds_none : (r : Reply) → Adds [] r r
adds_none r written found w = subst (λ (xs : List ℕ). Holds xs found r) (sym (append-nil written)) w

pub adds_then : (r r' r'' : Reply) {bytes more : List ℕ} → Adds bytes r r' → Adds more r' r'' → Adds (bytes ++ more) r r''
adds_then r r' r'' {bytes} {more} one two written found w =
    subst (λ (xs : List ℕ). Holds xs found r'') (append_assoc written bytes more) (two (written ++ bytes) found (one written found w))

-- bytes added to those of a reply, where they are known
pub behind : {bytes given more found left left' : List ℕ} {n n' : ℕ} → WroteAll bytes found n left →
    ((written found : List ℕ) → WroteAll written found n left → WroteAll (written ++ given) found n' left') → given ≡ more → WroteAll (bytes ++ more) found n' left'
behind {bytes} {found = found} {left' = left'} {n' = n'} w adds same = subst (λ (xs : List ℕ). WroteAll (bytes ++ xs) found n' left') same (adds bytes found w)

-- the buffer, given back as the reply left it
pub given_back : {bytes found left left' : List ℕ} {n : ℕ} → WroteAll bytes found n left → left' ≡ left → WroteAll bytes found n left'
given_back w same = record { count = w.count; there = same ∙ w.there }
