-- Expressions by their ranks, and what is in them, as words that do not unfold by themselves: one for each function of the parser.
use Rattle.std.specs.Prelude.{◌≡◌, ℕ, zero, suc, ◌-◌, nat_le, List, [], ◌∷◌, ◌++◌, length, Some, None, if◌then◌else◌}
use Rattle.bz_lex.specs.declared.leaf.Leaf.{Leaf}
use Rattle.bz_grammar.specs.declared.kind.Kind.TheVariants as k
use Rattle.bz_grammar.specs.declared.tree.Part.{Part}
use Rattle.bz_states.specs.declared.token.TokenSet.{TokenSet}
use Rattle.bz_states.specs.declared.state.NodeState.{NodeState}
use Rattle.bz_states.specs.declared.state.Precedence.{Precedence}
use Rattle.bz_states.specs.declared.state.Precedence.TheVariants as g
use Rattle.bz_grammar.specs.Spell.{depth_part}
use Rattle.bz_grammar.specs.Shapes.{rank}
use Rattle.bz_grammar.specs.Reading.{◌>>=◌, Read, starts_with, fits_in, atom, suffixes, climb, read_argument, read_param, reading}
use Rattle.bz_states.specs.Tokens.{terminals_of}
use Rattle.bz_states.specs.States.{precedence_of}
use Rattle.bz_tree.specs.private.Words.{found_from}

-- a part, or a node that it begins where this token is after it
unfoldable pub begun_at : ℕ → TokenSet → NodeState → Part → Read Part
begun_at d token state a ts = if starts_with (terminals_of token) ts then (if fits_in d a then found_from d (a ∷ []) state ts else None) else Some (a, ts)

-- a node that begins with these parts, where their depth is at most that
unfoldable pub fitted_at : ℕ → ℕ → List Part → NodeState → Read Part
fitted_at d deep ps state ts = if nat_le deep d then found_from d ps state ts else None

-- an expression of a rank or a lower one
unfoldable pub level_at : ℕ → ℕ → Read Part
level_at d n ts = climb d (reading d) n ts

abbrev pub climbed : ℕ → Precedence → Read Part → Read Part
climbed d g.Same next ts = next ts
climbed d (g.Prefix token state) next ts = if starts_with (terminals_of token) ts then found_from d [] state ts else next ts
climbed d (g.Infix token state) next ts = next ts >>= λ a. begun_at d token state a.0 a.1

-- what the operator of a rank makes of an operand
abbrev pub bound : ℕ → Precedence → Part → Read Part
bound d (g.Infix token state) a ts = begun_at d token state a ts
bound d _ a ts = Some (a, ts)

unfoldable pub bound_at : ℕ → ℕ → Part → Read Part
bound_at d n a ts = bound d (precedence_of n) a ts

-- what the operators of this many ranks, from one on, make of an operand
abbrev pub rising : ℕ → ℕ → ℕ → Part → Read Part
rising d n zero a ts = Some (a, ts)
rising d n (suc more) a ts = bound d (precedence_of n) a ts >>= λ x. rising d (suc n) more x.0 x.1

-- the expression of a rank that begins with an operand of another
unfoldable pub risen_at : ℕ → ℕ → ℕ → Part → Read Part
risen_at d rank n a ts = rising d rank (n - rank) a ts

-- A part was read and put after the others, and an expression of rank n goes on with it from a rank on.
abbrev pub RisesFrom : ℕ → ℕ → ℕ → List Leaf → List Leaf → List Part → List Part → ℕ → Type 0
RisesFrom d rank n old new front all deep = (a : Part) × (risen_at d rank n a new ≡ level_at d n old) × (all ≡ front ++ (a ∷ [])) × (deep ≡ depth_part a)

-- a primary that begins with a part
unfoldable pub suffixes_at : ℕ → Part → Read Part
suffixes_at d a ts = suffixes (length ts) d (reading d) a ts

-- a name, a number, a string or what is in brackets
unfoldable pub atom_at : ℕ → Read Part
atom_at d ts = atom (reading d) ts

-- an argument of a call
unfoldable pub argument_at : ℕ → Read Part
argument_at d ts = read_argument (climb d (reading d) (rank k.Lambda)) (reading d) ts

-- a parameter
unfoldable pub param_at : ℕ → Read Part
param_at d ts = read_param (reading d) ts
