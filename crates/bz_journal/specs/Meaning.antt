-- What a command means on a text.
use Rattle.std.specs.Prelude.{◌≡◌, ◌≢◌, ◌⊎◌, List, Option, Some, None, Result, Ok, Err, if◌then◌else◌}
use Rattle.bz_journal.specs.Words.{Bytes, Item, Node, Operation, Reads, Refusal, Target, effect, lines_of, printed, prints, view_of}
pub use Rattle.bz_build_format.specs.Meaning.{Meaning, gives, refuses, written, Formats}

-- what is answered beside the text: of a command that prints, what it prints
abbrev pub printed_answer : Operation → Result Bytes Refusal → Option Bytes
printed_answer operation (Err refusal) = None
printed_answer operation (Ok text) = if prints operation then Some text else None

-- What an effect on the value of a text means. Where the value is unchanged, the text is as it was and isn't formatted; a new
-- value is written.
abbrev pub EffectMeans : Result (List Item) Refusal → Option Bytes → List Item → Bytes → Meaning → Type 0
EffectMeans (Err refusal) answer items text m = m ≡ refuses refusal
EffectMeans (Ok new) answer items text m = ((new ≡ items) × (m ≡ gives text answer)) ⊎ ((new ≢ items) × (m ≡ written new answer))

-- On a text that reads as a tree a command means what its effect on the file value means, and prints what it prints of that.
-- `current` is the path of the file's package.
abbrev pub Means : Operation → Target → Bytes → Bytes → Meaning → Type 0
Means operation target current text m =
    (tree : Node) × Reads text tree
    × EffectMeans (effect operation target current (lines_of tree) (view_of tree)) (printed_answer operation (printed operation target current (lines_of tree) (view_of tree))) (view_of tree) text m
