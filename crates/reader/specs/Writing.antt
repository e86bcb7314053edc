-- Replies under way: bytes written to a buffer that is lent. No public contract cites this file.
use Rattle.std.specs.Prelude.{◌≡◌, ℕ, List, ◌++◌, length}
use Rattle.reader.specs.declared.reply.Reply.{Reply}
use Rattle.reader.specs.Replies.{Wrote}

-- a reply is written to a buffer, and so many bytes is its length
pub record WroteAll (reply found : List ℕ) (n : ℕ) (left : List ℕ) : Type 0 where
  pub count : n ≡ length reply
  pub there : Wrote reply found left

-- the reply under way has these bytes, and behind them the buffer is as found
abbrev pub Holds : List ℕ → List ℕ → Reply → Type 0
Holds bytes found r = WroteAll bytes found r.length r.buffer.now

-- the bytes are added behind those that it has
abbrev pub Adds : List ℕ → Reply → Reply → Type 0
Adds bytes r r' = (written found : List ℕ) → Holds written found r → Holds (written ++ bytes) found r'
