use Rattle.bz_journal_format.specs.declared.content.Version.TheVariants.{Two}
use Rattle.bz_journal.proofs.session.Session.apart.Goals as goal

pub invariant_of-course : goal.invariant_of-course
invariant_of-course c = (c.self.invariant.0, c.new-kept.ensures Two _ _ _)
