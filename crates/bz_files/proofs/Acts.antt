-- How the calls that replace a file follow one another.
use Rattle.bz_files.proofs.Words.{[], ◌++◌, ◌∙◌, ◌∷◌, ◌≡◌, ◌≤◌, Err, false≢true, FileFault, Folder, get, IsUntouched, List, Ok, on_ok_weaker, OnOk, PutsFiles, PutsNewest, refl, Result, RewritesHeld, SameBeside, Some, subst, sym, Text, true, ℕ}
use Rattle.bz_files.specs.{Acts.Counted, Acts.GoesThrough, Faults.Rises, declared.files.Files.Ghosts as FilesOf}
use Rattle.bz_files.proofs.Elapsing.{weakened, elapsed_on, each_since}

abbrev pub Step : Type 1
Step = Folder → Folder → Type 0

pub on_ok_all : {A E : Type 0} (r : Result A E) (P : Type 0) → P → OnOk r P
on_ok_all (Ok a) P p = p
on_ok_all (Err e) P p = tt

module _ {F : Type 0} (files : FilesOf F) where
  abbrev pub Do : Step → Step → F → F → Type 0
  Do P Q old new = GoesThrough files.folder files.moment files.since P Q old new

  abbrev pub Ended : {T : Type 0} → Result T FileFault → F → F → Type 0
  Ended result old new = Counted files.faults files.honest result old new

  -- one call after another
  pub after : (a b c : F) (P0 Q0 P1 Q1 P Q : Step) → ((now : Folder) → P0 (files.folder a) now → P (files.folder a) now)
      → ((now : Folder) → P1 (files.folder b) now → P (files.folder a) now) → (Q1 (files.folder b) (files.folder c) → Q (files.folder a) (files.folder c))
      → Do P0 Q0 a b → Do P1 Q1 b c → Do P Q a c
  after a b c P0 Q0 P1 Q1 P Q early late done one two = record {
    time = elapsed_on (files.moment a) (files.moment b) (files.moment c) (files.since a) (files.since b) (files.since c) (P (files.folder a)) (P1 (files.folder b)) late
        (weakened (files.moment a) (files.moment b) (files.since a) (files.since b) (P0 (files.folder a)) (P (files.folder a)) early one.time) two.time;
    done = done two.done;
  }

  -- a call that leaves the folder as it is, and another
  pub after_look : (a b c : F) (P1 Q1 P Q : Step) → ((now : Folder) → now ≡ files.folder a → P (files.folder a) now)
      → ((now : Folder) → P1 (files.folder a) now → P (files.folder a) now) → (Q1 (files.folder a) (files.folder c) → Q (files.folder a) (files.folder c))
      → Do IsUntouched IsUntouched a b → Do P1 Q1 b c → Do P Q a c
  after_look a b c P1 Q1 P Q early late done one two = after a b c IsUntouched IsUntouched P1 Q1 P Q early
      (λ now is. late now (subst (λ (f : Folder). P1 f now) one.done is))
      (λ is. done (subst (λ (f : Folder). Q1 f (files.folder c)) one.done is)) one two

  -- and the other way around
  pub before_flush : (a b c : F) (P Q : Step) (r : Result (Unit {0}) FileFault) → (Q (files.folder a) (files.folder b) → P (files.folder a) (files.folder b))
      → Do P Q a b → Do IsUntouched IsUntouched b c → Do P (λ was now. OnOk r (Q was now)) a c
  before_flush a b c P Q r reached one two = after a b c P Q IsUntouched IsUntouched P (λ was now. OnOk r (Q was now)) (λ now is. is)
      (λ now is. subst (P (files.folder a)) (sym is) (reached one.done))
      (λ is. on_ok_all r (Q (files.folder a) (files.folder c)) (subst (Q (files.folder a)) (sym is) one.done)) one two

  -- ---- what is counted: by the last of several calls, of which no other failed, or by one that failed before others that count nothing

  pub counted_on : {T : Type 0} (r : Result T FileFault) (a b c : F) → files.faults b ≡ files.faults a → files.honest b ≡ files.honest a
      → Ended r b c → Ended r a c
  counted_on r a b c same honest later = record {
    kinds = later.kinds;
    cause = λ err. subst (λ n. Rises n (files.faults c)) same (later.cause err);
    kept = λ ok. later.kept ok ∙ same;
    count = subst (λ n. n ≤ files.faults c) same later.count;
    honest = later.honest ∙ honest;
  }

  pub counted_before : {T T' : Type 0} (fault : FileFault) (a b c : F) → files.faults c ≡ files.faults b → files.honest c ≡ files.honest b
      → Ended {T = T} (Err fault) a b → Ended {T = T'} (Err fault) a c
  counted_before fault a b c same honest first = record {
    kinds = first.kinds;
    cause = λ _. subst (λ n. Rises (files.faults a) n) (sym same) (first.cause refl);
    kept = λ ok. absurd (false≢true ok);
    count = subst (λ n. files.faults a ≤ n) (sym same) first.count;
    honest = honest ∙ first.honest;
  }

  -- files that are put after a call that leaves the folder as it is
  pub put_after : (P1 P Q : Step) (r : Result (Unit {0}) FileFault) (a b c : F) → ((now : Folder) → now ≡ files.folder a → P (files.folder a) now)
      → (files.honest a ≡ true → (now : Folder) → P1 (files.folder a) now → P (files.folder a) now) → (files.honest a ≡ true → Do IsUntouched IsUntouched a b)
      → (files.honest a ≡ true → files.waiting b ≡ files.waiting a) → files.faults b ≡ files.faults a → files.honest b ≡ files.honest a
      → PutsFiles files P1 Q r b c → PutsFiles files P Q r a c
  put_after P1 P Q r a b c start weaker looks waits faults honest acts = record {
    goes = λ is. after_look a b c P1 (λ was now. OnOk r (Q was now)) P (λ was now. OnOk r (Q was now)) start (weaker is) (λ ok. ok) (looks is)
        (acts.goes (honest ∙ is));
    waiting = λ is. acts.waiting (honest ∙ is) ∙ waits is;
    counted = counted_on r a b c faults honest acts.counted;
  }

  -- ---- a new file that was made takes its place, or could not be made

  module _ (name : Text) (bytes : List ℕ) (P Q : Step) (early : (old now : Folder) → SameBeside name old now → P old now) where
    pub placed_after : (P1 Q1 : Text → List ℕ → Step) (r : Result (Unit {0}) FileFault) (a b c : F)
        → ((old mid now : Folder) → SameBeside name old mid → P1 name bytes mid now → P old now)
        → ((old mid now : Folder) → SameBeside name old mid → Q1 name bytes mid now → Q old now)
        → (files.honest a ≡ true → Do (SameBeside name) (SameBeside name) a b)
        → (files.honest a ≡ true → files.waiting b ≡ files.waiting a ++ (name, bytes) ∷ [])
        → files.faults b ≡ files.faults a → files.honest b ≡ files.honest a → PutsNewest files P1 Q1 r b c → PutsFiles files P Q r a c
    placed_after P1 Q1 r a b c late done makes made faults honest placed = record {
      goes = λ is. let one = makes is in after a b c (SameBeside name) (SameBeside name) (P1 name bytes) (λ was now. OnOk r (Q1 name bytes was now))
          P (λ was now. OnOk r (Q was now)) (early (files.folder a)) (λ now. late (files.folder a) (files.folder b) now one.done)
          (on_ok_weaker r (done (files.folder a) (files.folder b) (files.folder c) one.done)) one
          (placed.goes (honest ∙ is) (files.waiting a) name bytes (made is));
      waiting = λ is. placed.waiting (honest ∙ is) (files.waiting a) name bytes (made is);
      counted = counted_on r a b c faults honest placed.counted;
    }

    pub not_made : (fault : FileFault) (a b : F) → (files.honest a ≡ true → Do (SameBeside name) (SameBeside name) a b)
        → (files.honest a ≡ true → files.waiting b ≡ files.waiting a) → Ended {T = Unit {0}} (Err fault) a b → PutsFiles files P Q (Err fault) a b
    not_made fault a b makes unmade counted = record {
      goes = λ is. record {
        time = weakened (files.moment a) (files.moment b) (files.since a) (files.since b) (SameBeside name (files.folder a)) (P (files.folder a))
            (early (files.folder a)) (makes is).time;
        done = tt;
      };
      waiting = unmade;
      counted = counted;
    }

  -- ---- what holds of each folder since the beginning, by the laws of the trait

  module _ (only : (held : F) (now : Folder) → files.since held (files.moment held) now → now ≡ files.folder held)
      (counts : (held : F) (t : ℕ) → t ≤ files.moment held → files.since held t (files.folder held)) where
    pub each : (a b : F) (P Q : Step) → P (files.folder a) (files.folder a) → Do P Q a b → (now : Folder) → files.since b (files.moment a) now → P (files.folder a) now
    each a b P Q start goes now stood = each_since (files.moment a) (files.moment b) (files.since a) (files.since b) (P (files.folder a)) goes.time
        (λ was is. subst (P (files.folder a)) (sym (only a was is)) start) now stood

    pub last : (a b : F) (P Q : Step) → P (files.folder a) (files.folder a) → Do P Q a b → P (files.folder a) (files.folder b)
    last a b P Q start goes = each a b P Q start goes (files.folder b) (counts b (files.moment a) goes.time.later)

    -- files that are replaced after a look: the new file of one was made, and it takes its place last
    module _ (name standing : Text) (bytes : List ℕ) (M P Q : Step) (start : (old now : Folder) → now ≡ old → P old now)
        (weaker : (old now : Folder) → get old name ≡ Some standing → M old now → P old now) (early : (old now : Folder) → SameBeside name old now → M old now) where
      pub rewritten : (P1 Q1 : Text → List ℕ → Step) (r : Result (Unit {0}) FileFault) (a b c d : F)
          → ((old mid now : Folder) → SameBeside name old mid → P1 name bytes mid now → M old now)
          → ((old mid now : Folder) → SameBeside name old mid → Q1 name bytes mid now → Q old now)
          → (files.honest a ≡ true → get (files.folder a) name ≡ Some standing) → (files.honest a ≡ true → Do IsUntouched IsUntouched a b)
          → (files.honest a ≡ true → files.waiting b ≡ files.waiting a) → files.faults b ≡ files.faults a → files.honest b ≡ files.honest a
          → (files.honest b ≡ true → Do (SameBeside name) (SameBeside name) b c) → (files.honest b ≡ true → files.waiting c ≡ files.waiting b ++ (name, bytes) ∷ [])
          → files.faults c ≡ files.faults b → files.honest c ≡ files.honest b → PutsNewest files P1 Q1 r c d → RewritesHeld files name standing P Q r a d
      rewritten P1 Q1 r a b c d late done held looks waits steady honest makes made faults stays placed =
          let acts = put_after M P Q r a b d (start (files.folder a)) (λ is now. weaker (files.folder a) now (held is)) looks waits steady honest
          (placed_after name bytes M Q early P1 Q1 r b c d late done makes made faults stays placed) in
          record {
            held = λ is. on_ok_all r (get (files.folder a) name ≡ Some standing) (held is);
            replaced = λ is. (acts.goes is).done;
            untouched = λ is other. absurd (other (held is));
            apart = λ is other. absurd (other (held is));
            either = λ is. last a d P (λ was now. OnOk r (Q was now)) (start (files.folder a) (files.folder a) refl) (acts.goes is);
            time = λ is. (acts.goes is).time;
            waiting = acts.waiting;
            counted = acts.counted;
          }
