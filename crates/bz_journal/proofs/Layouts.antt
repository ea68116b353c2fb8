-- The trees that commands leave: each is the layout of a tidy value.
use Rattle.bz_journal.proofs.Words.{◌<◌, ◌∙◌, ◌≡◌, after_meaning, Answer, ap, BuildLayoutIsBuild, Bytes, given, gives, History, IsGiven, IsProperBuild, IsTidyLayoutOf, Item, laid_out, LayoutIsAccepted, LayoutReadsBack, length, List, Meaning, Node, Ok, OneReading, Option, present, printed, Reads, refl, refuses, Reply, subst, sym, tidied, view_of, whole_grammar, written, WrittenIsLaidOut}
use Rattle.bz_passes.specs.Laws.{BuildStays, ProperStays, TidySettles, TidyStays}
use Rattle.bz_journal.proofs.Formatting.{text_after}
use Rattle.bz_build_format.proofs.Formatting.{read_back}

-- by what the layers below promise: of reading, of the layout of a proper value, and of tidying
module _ (one : OneReading) (accepted : LayoutIsAccepted) (build : BuildLayoutIsBuild) (back : LayoutReadsBack) (proper : ProperStays) (builds : BuildStays) (settled : TidySettles) (stays : TidyStays) where
  by_meaning : (m : Meaning) (items : List Item) (requested : Option Bytes) (note : Bytes) (h after : History) (reply : Reply) (tree : Node)
      → written items requested ≡ m → IsProperBuild items → h.cursor < length h.texts → ◌≡◌ {A = Answer × History} (Ok reply, after) (after_meaning note h m)
      → Reads (present after) tree → IsTidyLayoutOf items tree
  by_meaning (gives text printed) items requested note h after reply tree gives_it own within led there =
      let reads : Reads text tree = subst (λ (t : Bytes). Reads t tree) (text_after note h after text printed reply within led) there in
      let laid = read_back accepted build back proper builds settled items text requested printed own gives_it in
      let same : laid_out (tidied items) ≡ tree = one text (laid_out (tidied items)) tree laid.0 reads in
      let is : IsGiven items text requested printed = given items text requested printed gives_it in
      (record { proper = (proper whole_grammar items own.0, builds items own.1); tidy = stays items; laid_out = same }, ap view_of (sym same) ∙ laid.1, reads.1 ∙ is.layout_is)
  by_meaning (refuses refusal) items requested note h after reply tree is own within led there = let answer = ap (λ (z : Answer × History). z.0) led in absurd (cc)

  pub written_is_laid_out : WrittenIsLaidOut
  written_is_laid_out items printed note h after reply tree own within led reads = by_meaning (written items printed) items printed note h after reply tree refl own within led reads
