-- What the outputs hold after two parts of a run, one after the other.
use Rattle.bz_streams.proofs.Imported.{[], ◌++◌, ◌||◌, ◌∙◌, ◌∷◌, ◌≡◌, ◌≤◌, ◌⊎◌, Appends, Appends-nil, Appends-trans, AppendsSome, arith, Bool, Counts, false, inl, inr, List, Option, Reports, Rises, subst, sym, true, Writes, WritesUnlessClosed, ℕ}
use Rattle.bz_streams.proofs.Written.{some_first, some_second}

-- ---- counts

pub rises_more : (a b d : ℕ) → a ≤ b → Rises a b → Counts b d → Rises a d
rises_more a b d le rises counts = go counts.rises
  where
    go : (d ≡ b) ⊎ Rises b d → Rises a d
    go (inl same) = subst (Rises a) (sym same) rises
    go (inr (inl more)) = inl (omega (arith, le, more))
    go (inr (inr most)) = inr most

pub counts_more : (a b d : ℕ) → Counts a b → Counts b d → Counts a d
counts_more a b d first more = let le = first.grows in let le' = more.grows in record { grows = omega (arith, le, le'); rises = go first.rises more.rises }
  where
    go : (b ≡ a) ⊎ Rises a b → (d ≡ b) ⊎ Rises b d → (d ≡ a) ⊎ Rises a d
    go (inl same) (inl still) = inl (still ∙ same)
    go (inl same) (inr rises) = inr (subst (λ (n : ℕ). Rises n d) same rises)
    go (inr rises) other = inr (rises_more a b d first.grows rises more)

-- ---- outputs

pub appends_nothing : (held : Option (List ℕ)) → Appends held held []
appends_nothing = Appends-nil

pub writes_more : (closed closes : Bool) (f g h : ℕ) (old mid new : Option (List ℕ)) (out more : List ℕ) → Writes closed f g old mid out
    → WritesUnlessClosed closed closes g h mid new more → Writes (closed || closes) f h old new (out ++ more)
writes_more true closes f g h old mid new out more first last =
    (subst (Rises f) (sym last.1) first.0, some_first old new out more (subst (λ (held : Option (List ℕ)). AppendsSome old held out) (sym last.2) first.1))
writes_more false false f g h old mid new out more first last = (last.0 ∙ first.0, Appends-trans old mid new out more first.1 last.1)
writes_more false true f g h old mid new out more first last =
    (subst (λ (n : ℕ). Rises n h) first.0 last.0, some_second old mid new out more first.1 last.1)

pub reports_more : (f g h : ℕ) (old mid new : Option (List ℕ)) (lines more : List (List ℕ)) → Reports f g old mid lines → Reports g h mid new more
    → Reports f h old new (lines ++ more)
reports_more f g h old mid new [] more first last =
    subst (λ (n : ℕ). Reports n h old new more) first.0 (subst (λ (held : Option (List ℕ)). Reports g h held new more) first.1 last)
reports_more f g h old mid new (line ∷ lines) more first last = (first.0, first.1, first.2, reports_more first.0 g h first.1 mid new lines more first.3 last)
