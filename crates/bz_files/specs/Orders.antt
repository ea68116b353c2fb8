-- Which acts of files came, and in which order.
use Rattle.std.specs.Prelude.{◌≡◌, ◌++◌, ◌∷◌, [], ℕ, List, Option, Some, None, Result, Ok, Err, OnOk, OnErr, fold, option_map}
use Rattle.std.specs.List.{All}
use Rattle.bz_files.specs.Folder.{Text}
use Rattle.bz_files.specs.declared.files.FileFault.{FileFault}
use Rattle.bz_files.specs.declared.files.FileKind.{FileKind}
use Rattle.bz_files.specs.declared.files.FileKind.TheVariants as k
use Rattle.bz_files.specs.declared.stamp.FileStamp.{FileStamp}

-- A call: what has a name was read as a file of that kind, and what came of it; a file held these bytes, with this stamp; it still did, with the
-- stamp of before; the new file of a name was made with these bytes, for whom a stamp lets; the newest new file took its place; the
-- folder of a file was flushed; the newest new file was given up. Or it failed, whichever of these it was.
pub data Act : Type 0 where
  Read : Text → FileKind → Result (Unit {0}) FileFault → Act
  Saw SawAgain : Text → List ℕ → FileStamp → Act
  Made : Text → List ℕ → FileStamp → Act
  TookPlace : Act
  Flushed : Text → Act
  GaveUp Failed : Act

-- one act more, and these in their order, where acts are kept
abbrev pub with_act : Option (List Act) → Act → Option (List Act)
with_act acts act = option_map (λ done. done ++ act ∷ []) acts

abbrev pub with_acts : Option (List Act) → List Act → Option (List Act)
with_acts acts more = fold with_act acts more

-- what came of a call, and of a look by the stamp that an earlier one saw
abbrev pub act_of : {T : Type 0} → Result T FileFault → (T → Act) → Act
act_of (Ok value) act = act value
act_of (Err _) _ = Failed

abbrev pub look_of : Text → List ℕ → Option FileStamp → FileStamp → Act
look_of file held None seen = Saw file held seen
look_of file held (Some before) _ = SawAgain file held before

-- no act but new files for whom this stamp lets; none but reads of regular files; none but new files that are given up
abbrev pub IsMadeFor : FileStamp → Act → Type 0
IsMadeFor stamp (Made _ _ other) = other ≡ stamp
IsMadeFor stamp _ = Unit {0}

abbrev pub IsRegular : Act → Type 0
IsRegular (Read _ kind _) = kind ≡ k.Regular
IsRegular _ = Unit {0}

-- A file was seen so, and each new file that was made since is for whom its stamp lets.
abbrev pub WasSeen : Text → List ℕ → FileStamp → Option (List Act) → Type 0
WasSeen file held stamp acts = (start : Option (List Act)) × (since : List Act) × All (IsMadeFor stamp) since
    × (acts ≡ with_acts (with_act start (Saw file held stamp)) since)

-- The last act was a look that saw a file as an earlier one did: the same bytes and stamp.
abbrev pub IsSeenAgain : Option (List Act) → Type 0
IsSeenAgain acts = (file : Text) × (held : List ℕ) × (stamp : FileStamp) × (before : Option (List Act)) × WasSeen file held stamp before
    × (acts ≡ with_act before (SawAgain file held stamp))

-- Of what was read all were regular files.
abbrev pub ReadsRegular : Option (List Act) → Option (List Act) → Type 0
ReadsRegular before after = (done : List Act) × All IsRegular done × (after ≡ with_acts before done)

-- These acts came up to one that failed, and after it new files were given up alone.
abbrev pub BreaksOff : List Act → Option (List Act) → Option (List Act) → Type 0
BreaksOff order before after = (front rest ended : List Act) × (order ≡ front ++ rest) × All (λ act. act ≡ GaveUp) ended
    × (after ≡ with_acts before (front ++ Failed ∷ ended))

-- At an Ok these acts came, and no other; at an Err they broke off.
pub record KeepsOrder {T E : Type 0} (order : List Act) (result : Result T E) (before after : Option (List Act)) : Type 0 where
  pub whole : OnOk result (after ≡ with_acts before order)
  pub front : OnErr result (BreaksOff order before after)

-- ---- the orders

-- the file that was seen is seen again, and the newest new file takes its place
abbrev pub place_acts : Text → List ℕ → FileStamp → List Act
place_acts file held stamp = SawAgain file held stamp ∷ TookPlace ∷ []

-- what took its place before lasts before the journal does, and then the journal
abbrev pub journal_acts : Text → List ℕ → Text → List ℕ → FileStamp → List Act
journal_acts journal stored file held stamp = Flushed file ∷ Made journal stored stamp ∷ place_acts file held stamp ++ Flushed file ∷ []

abbrev pub rewrite_acts : Text → List ℕ → List ℕ → FileStamp → List Act
rewrite_acts name held bytes stamp = Saw name held stamp ∷ Made name bytes stamp ∷ place_acts name held stamp

abbrev pub pair_acts : Text → List ℕ → Text → List ℕ → List ℕ → FileStamp → List Act
pair_acts journal stored file held text stamp =
    Saw file held stamp ∷ Made file text stamp ∷ journal_acts journal stored file held stamp ++ place_acts file held stamp
