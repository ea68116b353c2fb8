-- What is read is the one file that the leaves are.
use Rattle.bz_tree.proofs.Words.{◌∙◌, ◌≡◌, ap, arith, depth_limit, Err, Fails, IsFileOf, Leaf, List, Node, None, none-some, Ok, OnOk, ParseHalt, ParseHalt as halt, Part, read_complete, read_file, read_sound, Result, Some, suc, sym, ℕ}
use Rattle.bz_grammar.specs.Joined.{file_with}

-- Of any depth: at a number, the reader would be computed as far down as the number says.
pub file_read : {X : Type 0} (d : ℕ) (ts : List Leaf) (result : Result X ParseHalt) (ps : List Part) → OnOk result (read_file d ts ≡ Some (file_with ps)) → suc d ≡ depth_limit → OnOk result (IsFileOf ts (file_with ps))
file_read d ts (Ok x) ps e is = let w = read_sound d ts (file_with ps) e in record { file = w.0; indents = w.1; leaves = w.2; depth = omega (arith, w.3, is) }
file_read d ts (Err _) ps e is = tt

no_file_of : (d : ℕ) (ts : List Leaf) → suc d ≡ depth_limit → read_file d ts ≡ None → (n : Node) → IsFileOf ts n → ⊥
no_file_of d ts is e n h = let c = read_complete d n h.file h.indents (omega (arith, h.depth, is)) in none-some n (sym e ∙ ap (read_file d) (sym h.leaves) ∙ c)

pub no_file : {X : Type 0} (d : ℕ) (ts : List Leaf) (result : Result X ParseHalt) → Fails result (read_file d ts) → suc d ≡ depth_limit → result ≡ Err halt.Unexpected → (n : Node) → IsFileOf ts n → ⊥
no_file d ts (Ok x) fails is e = absurd (cc)
no_file d ts (Err halt.Unexpected) none is e = no_file_of d ts is none
no_file d ts (Err halt.Memory) fails is e = absurd (cc)
