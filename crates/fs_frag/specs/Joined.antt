-- How segments are joined to messages again.
use Rattle.std.specs.Prelude.{ℕ, ◌-◌, List, [], ◌∷◌, ◌++◌, length, take, replicate, Option, Some, None, Result, Ok, Err, nat_lt, ◌==◌, if◌then◌else◌}
use Rattle.fs_ident.specs.Bytes.{number_in_front}
use Rattle.fs_frag.specs.declared.error.FragError.{FragError}
use Rattle.fs_frag.specs.declared.error.FragError.TheVariants.{Over}
use Rattle.fs_frag.specs.declared.joined.Back.{Back}
use Rattle.fs_frag.specs.declared.joined.Back.TheVariants.{Same, Front, All}
use Rattle.fs_frag.specs.declared.joined.Joined.{Joined}
use Rattle.fs_frag.specs.declared.joined.Joined.TheVariants as comes
use Rattle.fs_frag.specs.Cut.{cut_of}

-- nothing as long as bytes are wanting, then the message, or that there are too many bytes for it
abbrev pub measured : ℕ → ℕ → List ℕ → Result (Option (List ℕ)) FragError
measured have want message =
    if nat_lt have want then Ok None else (if have == want then Ok (Some message) else Err (Over have want))

-- nothing without a length, and else what the length in front says of the bytes behind it
abbrev pub framed_answer : Option (ℕ × List ℕ) → Result (Option (List ℕ)) FragError
framed_answer None = Ok None
framed_answer (Some x) = measured (length x.1) x.0 x.1

-- what a joiner answers that holds these bytes now
abbrev pub answer_of : List ℕ → Result (Option (List ℕ)) FragError
answer_of bytes = framed_answer (number_in_front bytes)

-- what it holds after that answer
abbrev pub held_after : Result (Option (List ℕ)) FragError → List ℕ → List ℕ
held_after (Ok None) bytes = bytes
held_after (Ok (Some message)) bytes = []
held_after (Err e) bytes = []

-- the answers of a joiner that holds these bytes to segments, one after another
abbrev pub answers : List ℕ → List (List ℕ) → List (Result (Option (List ℕ)) FragError)
answers held [] = []
answers held (s ∷ ss) = answer_of (held ++ s) ∷ answers (held_after (answer_of (held ++ s)) (held ++ s)) ss

-- what it holds after all of them
abbrev pub held_by : List ℕ → List (List ℕ) → List ℕ
held_by held [] = held
held_by held (s ∷ ss) = held_by (held_after (answer_of (held ++ s)) (held ++ s)) ss

-- what comes of the answers: each message, and each time that there were too many bytes
abbrev pub joined_of : List (Result (Option (List ℕ)) FragError) → List Joined
joined_of [] = []
joined_of (Ok (Some message) ∷ rest) = comes.Whole message ∷ joined_of rest
joined_of (Ok None ∷ rest) = joined_of rest
joined_of (Err e ∷ rest) = comes.Over ∷ joined_of rest

-- what a joiner that holds these bytes held before
abbrev pub held_before : Back → List ℕ → List ℕ
held_before Same held = held
held_before (Front n) held = take n held
held_before (All bytes) held = bytes

-- the messages among the answers
abbrev pub messages_of : List (Result (Option (List ℕ)) FragError) → List (List ℕ)
messages_of [] = []
messages_of (Ok (Some message) ∷ rest) = message ∷ messages_of rest
messages_of (Ok None ∷ rest) = messages_of rest
messages_of (Err e ∷ rest) = messages_of rest

-- the message at its last segment, and nothing before
abbrev pub answers_for : List ℕ → List (Result (Option (List ℕ)) FragError)
answers_for message = replicate (length (cut_of message) - 1) (Ok None) ++ Ok (Some message) ∷ []
