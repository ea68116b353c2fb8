-- What one text of buildifier's does.
use Rattle.bz_buildifier.proofs.Words.{[], ◌++◌, ◌+◌, ◌<◌, ◌∙◌, ◌≡◌, ◌≢◌, ◌≤◌, ◌⊎◌, Accepted, ap, appends_nothing, arith, Bool, Cut as c, Effect, Err, false, FileFault, FileFault as file, Folder, FormatFault, FormatFault as f, FormatsAs, get, IfSome, inl, inr, IsInput, length, length-take, limit, List, None, Ok, Option, ReadFault, ReadFault as read, refl, refused, Rewrites, Some, subst, sym, take, take_all, true, unread_file, WritesUnlessClosed, ℕ}
use Rattle.std.proofs.lemmas.Bool.{cases_lt}
use Rattle.bz_lex.specs.{Faults.is_of_leaves, Stops.IsFaultAt}
use Rattle.bz_grammar.specs.Faults.{IsFaultOf}

-- an effect that writes nothing on standard output, which does not fail
pub record IsQuiet (effect : Effect) : Type 0 where
  pub stays : effect.closes ≡ false
  pub nothing : effect.out ≡ []
  pub other : effect.cut ≡ c.Write → ⊥

pub nothing_more : (closed : Bool) (faults : ℕ) (held : Option (List ℕ)) → WritesUnlessClosed closed false faults faults held held []
nothing_more true faults held = (refl, refl, refl)
nothing_more false faults held = (refl, appends_nothing held)

pub quiet : (closed : Bool) (effect : Effect) (faults : ℕ) (held : Option (List ℕ)) → IsQuiet effect
    → WritesUnlessClosed closed effect.closes faults faults held held effect.out
quiet closed effect faults held is = rw (is.stays, is.nothing) (nothing_more closed faults held)

pub unread_quiet : (name : List ℕ) (fault : FileFault) → IsQuiet (unread_file name fault)
unread_quiet name file.Absent = record { stays = refl; nothing = refl; other = λ is. cc is }
unread_quiet name file.Open = record { stays = refl; nothing = refl; other = λ is. cc is }
unread_quiet name file.Write = record { stays = refl; nothing = refl; other = λ is. cc is }
unread_quiet name file.Memory = record { stays = refl; nothing = refl; other = λ is. cc is }

pub refused_quiet : (name text : List ℕ) (fault : FormatFault) → IsQuiet (refused name text fault)
refused_quiet name text (f.Unread fault) = record { stays = refl; nothing = refl; other = λ is. cc is }
refused_quiet name text f.TooLarge = record { stays = refl; nothing = refl; other = λ is. cc is }
refused_quiet name text f.TooDeep = record { stays = refl; nothing = refl; other = λ is. cc is }
refused_quiet name text f.Memory = record { stays = refl; nothing = refl; other = λ is. cc is }

pub same_rewrites : (name text text' new new' : List ℕ) (folder folder' after : Folder) (effect : Effect) → text' ≡ text → new' ≡ new → folder' ≡ folder
    → Rewrites name text' new' folder' effect after → Rewrites name text new folder effect after
same_rewrites name text text' new new' folder folder' after effect of_text of_new of_folder rewrites =
    subst (λ (f : Folder). Rewrites name text new f effect after) of_folder
    (subst (λ (t : List ℕ). Rewrites name t new folder' effect after) of_text
    (subst (λ (n : List ℕ). Rewrites name text' n folder' effect after) of_new rewrites))

-- ---- the front of an input, one byte longer than a text may be, decides what becomes of it

within_limit : (text : List ℕ) → Accepted text → length text ≤ limit
within_limit text accepted = accepted.1.2

fault_of_front : (all : List ℕ) (fault : ReadFault) → limit < length all → IsFaultOf (take (limit + 1) all) fault → IsFaultOf all fault
fault_of_front all fault long of_front =
    let len = length-take (limit + 1) all in
    let large : fault ≡ read.TooLarge = of_front.too_large.1 (omega arith) in
    record {
      too_large = (λ _. long, λ _. large);
      not_utf8 = λ at. (λ is. absurd (cc), λ short. let fits = short.0 in absurd (omega arith));
      other = of_front.other;
    }

-- the front of a longer text has no fault of its leaves
placed_of_front : (wrong : List ℕ → Type 0) (all : List ℕ) (fault : ReadFault) → limit < length all → IsFaultOf (take (limit + 1) all) fault
    → is_of_leaves fault ≡ true → IsFaultAt wrong all fault
placed_of_front wrong all fault long of_front of_leaves =
    let large : fault ≡ read.TooLarge = (fault_of_front all fault long of_front).too_large.1 long in absurd (cc (sym (ap is_of_leaves large) ∙ of_leaves))

-- the whole text, or what its front shows of a longer one
cut_at_limit : (all : List ℕ) → (take (limit + 1) all ≡ all) ⊎ (limit < length all)
cut_at_limit all = go (cases_lt limit (length all))
  where
    go : (limit < length all) ⊎ (length all ≤ limit) → (take (limit + 1) all ≡ all) ⊎ (limit < length all)
    go (inr short) = inl (take_all (limit + 1) all (omega arith))
    go (inl long) = inr long

-- what is formatted, or isn't by its formatted text, is no longer than a text may be
short_ok : (bzl : Bool) (text new : List ℕ) → FormatsAs bzl text (Ok new) → length text ≤ limit
short_ok true text new formats = formats.1.2
short_ok false text new formats = formats.1.2

long_front : (all : List ℕ) → limit < length all → length (take (limit + 1) all) ≤ limit → ⊥
long_front all long short = let len = length-take (limit + 1) all in omega arith

pub ok_of_front : (bzl : Bool) (known : Option (List ℕ)) (front new : List ℕ) → IfSome known (λ all. front ≡ take (limit + 1) all) → FormatsAs bzl front (Ok new)
    → (input : List ℕ) × IsInput known input × (input ≡ front)
ok_of_front bzl None front new read formats = (front, tt, refl)
ok_of_front bzl (Some all) front new read formats = go (cut_at_limit all)
  where
    go : (take (limit + 1) all ≡ all) ⊎ (limit < length all) → (input : List ℕ) × IsInput (Some all) input × (input ≡ front)
    go (inl whole) = (all, refl, sym (read ∙ whole))
    go (inr long) = absurd (long_front all long (subst (λ (text : List ℕ). length text ≤ limit) read (short_ok bzl front new formats)))

no_excerpt : (name all other : List ℕ) (fault : ReadFault) → fault ≡ read.TooLarge → refused name other (f.Unread fault) ≡ refused name all (f.Unread fault)
no_excerpt name all other fault is =
    ap (λ (large : ReadFault). refused name other (f.Unread large)) is ∙ sym (ap (λ (large : ReadFault). refused name all (f.Unread large)) is)

-- What is reported of the front of a longer text is reported of the text, in the same words: it is too large, which has no place.
longer : (bzl : Bool) (all : List ℕ) → limit < length all → (reported : FormatFault) → FormatsAs bzl (take (limit + 1) all) (Err reported)
    → FormatsAs bzl all (Err reported) × ((name : List ℕ) → refused name (take (limit + 1) all) reported ≡ refused name all reported)
longer false all long (f.Unread fault) of_front =
    let whole = fault_of_front all fault long of_front.1 in (
      (
        (λ accepted. let le = within_limit all accepted in omega (arith, le, long)),
        whole,
        placed_of_front (λ blanks. blanks ≢ []) all fault long of_front.1,
      ),
      λ name. no_excerpt name all (take (limit + 1) all) fault (whole.too_large.1 long),
    )
longer true all long (f.Unread fault) of_front =
    let whole = fault_of_front all fault long of_front.1 in (
      (
        (λ tree reads. let le : length all ≤ limit = reads.2 in omega (arith, le, long)),
        whole,
        placed_of_front (λ _. Unit {0}) all fault long of_front.1,
      ),
      λ name. no_excerpt name all (take (limit + 1) all) fault (whole.too_large.1 long),
    )
longer false all long f.TooLarge of_front = absurd (long_front all long of_front.1.2)
longer true all long f.TooLarge of_front = absurd (long_front all long of_front.1.2)
longer false all long f.TooDeep of_front = absurd (long_front all long of_front.1.2)
longer true all long f.TooDeep of_front = absurd (long_front all long of_front.1.2)
longer false all long f.Memory of_front = (tt, λ name. refl)
longer true all long f.Memory of_front = (tt, λ name. refl)

pub err_of_front : (bzl : Bool) (known : Option (List ℕ)) (front : List ℕ) (fault : FormatFault) → IfSome known (λ all. front ≡ take (limit + 1) all) → FormatsAs bzl front (Err fault)
    → (input : List ℕ) × IsInput known input × FormatsAs bzl input (Err fault) × ((name : List ℕ) → refused name front fault ≡ refused name input fault)
err_of_front bzl None front fault read formats = (front, tt, formats, λ name. refl)
err_of_front bzl (Some all) front fault read formats = go (cut_at_limit all)
  where
    of_all : FormatsAs bzl (take (limit + 1) all) (Err fault)
    of_all = subst (λ (text : List ℕ). FormatsAs bzl text (Err fault)) read formats

    go : (take (limit + 1) all ≡ all) ⊎ (limit < length all)
        → (input : List ℕ) × IsInput (Some all) input × FormatsAs bzl input (Err fault) × ((name : List ℕ) → refused name front fault ≡ refused name input fault)
    go (inl whole) = (
      all,
      refl,
      subst (λ (text : List ℕ). FormatsAs bzl text (Err fault)) whole of_all,
      λ name. ap (λ (text : List ℕ). refused name text fault) (read ∙ whole),
    )
    go (inr long) =
        let of_text = longer bzl all long fault of_all in
        (all, refl, of_text.0, λ name. ap (λ (text : List ℕ). refused name text fault) read ∙ of_text.1 name)

-- ---- so does the front of a file, which is read after nothing

front_read : (bytes start items : List ℕ) → items ≡ start ++ take (limit + 1) bytes → start ≡ [] → items ≡ take (limit + 1) bytes
front_read bytes start items is empty = is ∙ ap (λ s. s ++ take (limit + 1) bytes) empty

-- of a text that is formatted it is the file
pub formatted_file : (bzl : Bool) (folder : Folder) (name bytes start items text new : List ℕ) → get folder name ≡ Some bytes → items ≡ start ++ take (limit + 1) bytes
    → start ≡ [] → text ≡ items → FormatsAs bzl text (Ok new) → (get folder name ≡ Some items) × FormatsAs bzl items (Ok new)
formatted_file bzl folder name bytes start items text new at is empty same formats =
    let own : FormatsAs bzl items (Ok new) = subst (λ (t : List ℕ). FormatsAs bzl t (Ok new)) same formats in
    let all = ok_of_front bzl (Some bytes) items new (front_read bytes start items is empty) own in (at ∙ ap Some (sym all.1 ∙ all.2), own)

-- and what is reported of it is reported of the file, in the same words
pub refused_file : (bzl : Bool) (bytes start items : List ℕ) (fault : FormatFault) → items ≡ start ++ take (limit + 1) bytes → start ≡ []
    → FormatsAs bzl items (Err fault) → FormatsAs bzl bytes (Err fault) × ((name : List ℕ) → refused name items fault ≡ refused name bytes fault)
refused_file bzl bytes start items fault is empty formats =
    let all = err_of_front bzl (Some bytes) items fault (front_read bytes start items is empty) formats in (
      subst (λ (text : List ℕ). FormatsAs bzl text (Err fault)) all.1 all.2,
      λ name. all.3 name ∙ ap (λ (text : List ℕ). refused name text fault) all.1,
    )
