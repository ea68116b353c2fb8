-- The loops over steps, and the test of a tree by its spelling.
use Rattle.bz_resume.proofs.Words.{[], ◌↔◌, ◌∙◌, ◌∷◌, ◌≡◌, ◌≤◌, ap, Bool, bytes_eq, bytes_eq-Decides, Edit, IsTree, IsTrue, length, limit, List, MatchOption, Node, None, one_tree, Option, outline_node, Reads, Some, spell_node, StepAgrees, StepsAgree, subst, swap_node, sym, ℕ}
use Rattle.bz_resume.proofs.Outlined.{one_outline}

-- what was found, or that nothing was
pub when_some : {T : Type 0} (P : Type 0) (Q : T → Type 0) (o : Option T) (x : T) → o ≡ Some x → MatchOption o P Q → Q x
when_some P Q o x is = subst (λ found. MatchOption found P Q) is

pub when_none : {T : Type 0} (P : Type 0) (Q : T → Type 0) (o : Option T) → o ≡ None → MatchOption o P Q → P
when_none P Q o is = subst (λ found. MatchOption found P Q) is

-- a text reads as a node that spells it just where the tree that it reads as has the outline of the node
pub by_outline : (n root : Node) (text outline own : List ℕ) (r : Bool) → Reads text root → text ≡ spell_node n → outline ≡ outline_node n → own ≡ outline_node root
    → r ≡ bytes_eq own outline → (IsTrue r ↔ IsTree n) × (IsTrue r → root ≡ n)
by_outline n root text outline own r reads shown first second is =
    let same = bytes_eq-Decides own outline in
    let equal : IsTrue r → root ≡ n = λ t. one_outline root n (sym second ∙ same.0 (sym is ∙ t) ∙ first) in (
      (
        λ t. subst IsTree (equal t) (reads.0, subst (λ (s : List ℕ). length s ≤ limit) (sym reads.1) reads.2),
        λ tree. is ∙ same.1 (second ∙ ap outline_node (one_tree root n reads.0 tree.0 (reads.1 ∙ shown)) ∙ sym first),
      ),
      equal,
    )

-- after some steps: the tree and its text, and all steps are known just where those that are left are
pub record IsGoing (n : Node) (es : List (List Edit)) (ds : List (List ℕ)) (m : Node) (text : List ℕ) (left : List (List Edit)) (others : List (List ℕ)) : Type 0 where
  pub tree : IsTree m
  pub text_is : text ≡ spell_node m
  pub same : StepsAgree n es ds ↔ StepsAgree m left others

module _ {n m : Node} {es left later : List (List Edit)} {ds others : List (List ℕ)} {text : List ℕ} {e : List Edit} (going : IsGoing n es ds m text left others) (first : left ≡ e ∷ later)
    {d : List ℕ} {rest : List (List ℕ)} (next : others ≡ d ∷ rest) where
  opened : StepsAgree m left others → StepAgrees e m d × StepsAgree (swap_node e m) later rest
  opened h = rw (first, next) at h

  closed : StepAgrees e m d × StepsAgree (swap_node e m) later rest → StepsAgree m left others
  closed h = rw (first, next) h

  pub went : (m' : Node) (text' : List ℕ) → StepAgrees e m d → m' ≡ swap_node e m → text' ≡ spell_node m' → IsGoing n es ds m' text' later rest
  went m' text' agrees is shown = record {
    tree = subst IsTree (sym is) agrees.0.tree;
    text_is = shown;
    same = (
      λ h. subst (λ (z : Node). StepsAgree z later rest) (sym is) (opened (going.same.0 h)).1,
      λ h. going.same.1 (closed (agrees, subst (λ (z : Node). StepsAgree z later rest) is h)),
    );
  }

-- what is said of the tree that was read of a text is said of each that the text reads as
pub agrees_of : (P : Node → Type 0) (text : List ℕ) (tree : Node) (t : Bool) → Reads text tree → (IsTrue t ↔ P tree) → (n : Node) → Reads text n → IsTrue t ↔ P n
agrees_of P text tree t own agrees n reads = subst (λ (z : Node). IsTrue t ↔ P z) (one_tree tree n own.0 reads.0 (own.1 ∙ sym reads.1)) agrees
