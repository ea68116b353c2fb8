-- A search for the last bracket at a depth, and the brackets that are open where it is.
use Rattle.std.specs.Prelude.{◌≡◌, ◌≤◌, ◌-◌, List, length}
use Rattle.std.specs.List.{slice_get}
use Rattle.bz_streams.specs.Brackets.{Scan}
use Rattle.bz_streams.specs.declared.brackets.Bracket.{Bracket}
use Rattle.bz_streams.specs.declared.brackets.Search.{Search}

-- As many brackets are open, and the one that was found is the one among them at the depth that is wanted.
pub record AreOpen (search : Search) (brackets : List Bracket) : Type 0 where
  pub depth : search.depth ≡ length brackets
  pub found : search.wanted ≤ length brackets → search.found ≡ slice_get brackets (length brackets - search.wanted)

pub record IsSearch (search : Search) (scan : Scan) : Type 0 where
  pub within : search.within ≡ scan.within
  pub line : search.line ≡ scan.line
  pub column : search.column ≡ scan.column
  pub brackets : AreOpen search scan.brackets
