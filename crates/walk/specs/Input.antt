-- What was read: bytes at the start of the buffer, or nothing that counts.
use Rattle.std.specs.Prelude.{◌≡◌, ◌<◌, ◌≤◌, ℕ, List, Option, length, take, Ok, Err}
use Rattle.std.specs.Io.KnownBytes.{Consumes, IsAtEnd}
use Rattle.std.specs.declared.result.Result.{Result}

abbrev pub Within : {E : Type 0} → Result ℕ E → List ℕ → Type 0
Within (Ok n) buffer = (n ≤ length buffer) × (n ≡ length (take n buffer))
Within (Err e) buffer = Unit {0}

-- Where it is known what the input has left: those bytes are its next ones, and it has more only where they fill the buffer.
abbrev pub Taken : {E : Type 0} → Option (List ℕ) → Option (List ℕ) → Result ℕ E → List ℕ → Type 0
Taken before after (Ok n) buffer = Consumes before after (take n buffer) × (n < length buffer → IsAtEnd after)
Taken before after (Err e) buffer = Unit {0}
