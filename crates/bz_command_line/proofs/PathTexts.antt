-- The package of a target that is read in a text of characters.
use Rattle.bz_command_line.proofs.Words.{◌++◌, append_assoc, arith, Bytes, codes, HasPath, inl, inr, IsUtf8, subst, Target}
use Rattle.bz_label.specs.Targets.{IsSpelled, IsTarget}
use Rattle.bz_command_syntax.proofs.Utf8Texts.{beside_ascii}

slashes_cut : (path : Bytes) → IsUtf8 (codes "//" ++ path) → IsUtf8 path
slashes_cut path u = (beside_ascii (codes "/") 47 path (omega arith) u).1

colon_cut : (path word : Bytes) → IsUtf8 (path ++ codes ":" ++ word) → IsUtf8 path
colon_cut path word u = (beside_ascii path 58 word (omega arith) (subst IsUtf8 (append_assoc path (codes ":") word) u)).0

path_utf8 : (text path word : Bytes) → IsSpelled text path word → IsUtf8 text → IsUtf8 path
path_utf8 text path word (inl is) u = colon_cut path word (subst IsUtf8 is u)
path_utf8 text path word (inr (inl is)) u = slashes_cut path (colon_cut (codes "//" ++ path) word (subst IsUtf8 is u))
path_utf8 text path word (inr (inr is)) u = slashes_cut path (subst IsUtf8 is.0 u)

pub has_path : (text : Bytes) (target : Target) → IsTarget text target → IsUtf8 text → HasPath target
has_path text target is u = (path_utf8 text target.«package» is.word is.spelled u, is.room)
