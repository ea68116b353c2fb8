-- The worked text is accepted, and `set size small` means the other text of it, by computation.
use Rattle.bz_buildozer.proofs.Words.{[], ◌<◌, ◌∷◌, ◌≡◌, Accepted, ap, Bool, Bytes, bytes_eq, chars, codes, drop, encode, false, gives, inl, inr, is_utf8, IsMade, IsUtf8, IsUtf8-from_is_utf8, Item, leb, leb-true, length, limit, List, Meaning, Node, None, Reads, refl, refuses, Some, suc, take, text_made, text_read, true, true≢false, written, ℕ}
use Rattle.bz_token.specs.declared.class.Class.{Class}
use Rattle.bz_token.specs.declared.class.Class.TheVariants as c
use Rattle.bz_token.specs.declared.state.State.{State}
use Rattle.bz_token.specs.declared.state.State.TheVariants.{Word, Ended, Operator, Closed}
use Rattle.bz_token.specs.private.Scanner.{keyword_or_name, ends, before_third, longest_front}
use Rattle.bz_token.specs.Tokens.{IsToken}
use Rattle.bz_token.proofs.Tokens.{some_token}
use Rattle.bz_lex.specs.{Leaves.AreCoded, Gaps.nothing}
use Rattle.bz_grammar.specs.{declared.kind.Kind.Kind, Kinds.kind_number, declared.tree.Part.Part, Legal.LegalPart, Legal.LegalShapes, Spell.leaves_of, Spell.depth_of, Spell.depth_limit, Spots.Begins, Spots.Within, Spots.AtLeaves, Spots.AtParts, Spots.Stands, Spots.AreTokens}
use Rattle.bz_grammar.specs.declared.kind.Kind.TheVariants as k
use Rattle.bz_grammar.specs.declared.tree.Part.TheVariants as p

-- ---- the text reads as the tree of f(name="x")

abbrev leaf : Class → Bytes → Part
leaf class token = p.Leaf (record { class = class; gap = []; token = token })

abbrev node : Kind → List Part → Part
node kind parts = p.Node (record { kind = kind; parts = parts })

abbrev argument : Part
argument = node k.Named (leaf c.Name (codes "name") ∷ leaf c.Mark (codes "=") ∷ leaf c.String (codes "\"x\"") ∷ [])

abbrev call : Part
call = node k.Call (leaf c.Name (codes "f") ∷ leaf c.Mark (codes "(") ∷ argument ∷ leaf c.Mark (codes ")") ∷ [])

abbrev tree : Node
tree = record { kind = k.File; parts = node k.Line (node k.Bare (call ∷ []) ∷ leaf c.Newline (codes "\n") ∷ []) ∷ leaf c.End [] ∷ [] }

shapes : LegalShapes tree
unfolding Rattle.bz_grammar.specs.declared.tree.Part.TheBlock.hidden-the_row-Part-0 denote.Hole.Carrier.hidden
shapes =
    let named : LegalPart argument = ((refl, (refl, (refl, tt))), (tt, (tt, (tt, tt)))) in
    let called : LegalPart call = ((refl, (refl, inr (refl, inl (refl, tt)))), (tt, (tt, (named, (tt, tt))))) in
    (inr (refl, inl (refl, tt)), (((refl, inl (refl, tt)), (((refl, tt), (called, tt)), (tt, tt))), (tt, tt)))

gaps : AtParts Stands Begins Begins tree.parts
unfolding Rattle.bz_grammar.specs.declared.tree.Part.TheBlock.hidden-the_row-Part-0 denote.Hole.Carrier.hidden
gaps =
    let named : AtLeaves Stands Within argument = (nothing refl, (nothing refl, (nothing refl, tt))) in
    let called : AtLeaves Stands Begins call = (nothing refl, (nothing refl, (named, (nothing refl, tt)))) in
    (((called, tt), ((false, nothing refl), tt)), ((false, nothing refl), tt))

-- From a place of the text on, this many bytes are a token where the machine stops after them.
token_at : (place : ℕ) (state : State) (class : Class) (count : ℕ) → let text = drop place text_read in
    Some (state, count) ≡ longest_front text → before_third state (drop count text) ≡ false → Some class ≡ ends state → IsToken (keyword_or_name class (take count text)) (take count text) (drop count text)
token_at place state class count front third is = (some_token (drop place text_read) (state, count) class front third is).1

tokens : AreTokens (leaves_of tree)
unfolding longest_front Rattle.bz_grammar.specs.declared.tree.Part.TheBlock.hidden-the_row-Part-0 denote.Hole.Carrier.hidden
tokens =
    let last : AreTokens (drop 6 (leaves_of tree)) = (inl refl, ((refl, refl), tt)) in
    let value : AreTokens (drop 3 (leaves_of tree)) = (token_at 6 Operator c.Mark 1 refl refl refl, (token_at 7 Closed c.String 3 refl refl refl, (token_at 10 Ended c.Mark 1 refl refl refl, last))) in
    (token_at 0 Word c.Name 1 refl refl refl, (token_at 1 Ended c.Mark 1 refl refl refl, (token_at 2 Word c.Name 4 refl refl refl, value)))

coded_leaf : (token : Bytes) → is_utf8 token ≡ true → IsUtf8 [] × IsUtf8 token
unfolding is_utf8 chars encode
coded_leaf token is = (IsUtf8-from_is_utf8 [] refl, IsUtf8-from_is_utf8 token is)

coded : AreCoded (leaves_of tree)
unfolding is_utf8 chars encode Rattle.bz_grammar.specs.declared.tree.Part.TheBlock.hidden-the_row-Part-0 denote.Hole.Carrier.hidden
coded =
    let value : AreCoded (drop 3 (leaves_of tree)) = (coded_leaf (codes "=") refl, (coded_leaf (codes "\"x\"") refl, (coded_leaf (codes ")") refl, (coded_leaf (codes "\n") refl, (coded_leaf [] refl, tt))))) in
    (coded_leaf (codes "f") refl, (coded_leaf (codes "(") refl, (coded_leaf (codes "name") refl, value)))

older : (kind : Kind) → leb (suc (kind_number kind)) (kind_number k.Def) ≡ true → kind_number kind < kind_number k.Def
older kind is = leb-true (suc (kind_number kind)) (kind_number k.Def) is

reads : Reads text_read tree
unfolding Rattle.bz_grammar.specs.declared.tree.Part.TheBlock.hidden-the_row-Part-0 denote.Hole.Carrier.hidden
reads = (
  record {
    legal = record { file = record { root = refl; shapes = shapes }; gaps = gaps; indents = ((refl, (tt, ((λ _. refl), tt))), (tt, tt)); tokens = tokens; coded = coded; depth = leb-true (depth_of tree) depth_limit refl };
    build = ((older k.Line refl, ((older k.Bare refl, ((older k.Call refl, (tt, (tt, ((older k.Named refl, (tt, (tt, (tt, tt)))), (tt, tt))))), tt)), (tt, tt))), (tt, tt));
  },
  refl,
  leb-true (length text_read) limit refl,
)

pub accepted : Accepted text_read
accepted = (tree, reads)

-- ---- what the command makes of it: another value, since that has another layout

abbrev is_made_text : Meaning → Bool
is_made_text (gives text printed) = bytes_eq text text_made
is_made_text (refuses refusal) = false

pub is_made : (current : Bytes) → IsMade current
unfolding Rattle.bz_value.specs.declared.value.Expr.TheBlock.hidden-the_row-Expr-0 Rattle.bz_grammar.specs.declared.tree.Part.TheBlock.hidden-the_row-Part-0 denote.Hole.Carrier.hidden
is_made current = (tree, reads, inr ((λ same. true≢false (ap (λ (items : List Item). is_made_text (written items None)) same)), refl))
