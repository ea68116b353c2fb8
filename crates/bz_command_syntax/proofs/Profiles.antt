-- What is read of a command in a profile, by what the table reads.
use Rattle.bz_command_syntax.proofs.Imported.{◌∙◌, ◌≡◌, ap, by_profile, entering, entering_host, Err, inl, inr, IsHost, IsProperCommand, Ok, read_by_profile, ReadCommand, sym}
use Rattle.bz_command_syntax.specs.Refused.{HasBadPattern, IsReadAs}
use Rattle.bz_command_syntax.specs.declared.command.{Host.Host, Operation.Operation}
use Rattle.bz_command_syntax.specs.declared.command.Host.TheVariants as h
use Rattle.bz_command_syntax.specs.declared.command.Operation.TheVariants as w
use Rattle.bz_command_syntax.specs.declared.command.ValueOperation.TheVariants as wv
use Rattle.bz_command_syntax.specs.declared.command.LoadOperation.TheVariants as wl
use Rattle.bz_command_syntax.specs.declared.command.CommentOperation.TheVariants as wc
use Rattle.bz_command_syntax.specs.declared.fault.CommandFault.{CommandFault}
use Rattle.bz_command_syntax.specs.declared.profile.Profile.{Profile}
use Rattle.bz_command_syntax.specs.declared.profile.Profile.TheVariants.{Own, Bazelbuild}

same_read : (read made : ReadCommand) → read ≡ made → IsReadAs read made
same_read read (Ok operation) is = is
same_read read (Err fault) is = inl (inl is)

pub read_in : (profile : Profile) (read made : ReadCommand) (operation : Operation) → read ≡ Ok operation → made ≡ by_profile profile operation
    → IsReadAs (read_by_profile profile read) made
read_in profile read made operation listed is = same_read _ made (ap (read_by_profile profile) listed ∙ sym is)

-- a pattern that is refused is refused in each profile
bad_pattern : (profile : Profile) (read : ReadCommand) → HasBadPattern read → HasBadPattern (read_by_profile profile read)
bad_pattern Own (Ok (w.Value (wv.Substitute attributes pattern template selects))) bad = bad
bad_pattern Own (Ok (w.Load (wl.Substitute pattern template))) bad = bad
bad_pattern Bazelbuild (Ok (w.Value (wv.Substitute attributes pattern template selects))) bad = bad
bad_pattern Bazelbuild (Ok (w.Load (wl.Substitute pattern template))) bad = bad
bad_pattern _ _ bad = absurd bad

pub refused_in : (profile : Profile) (read : ReadCommand) (fault : CommandFault) → IsReadAs read (Err fault) → IsReadAs (read_by_profile profile read) (Err fault)
refused_in profile read fault answered = elim answered [
  | inl (inl is) ↦ inl (inl (ap (read_by_profile profile) is))
  | inl (inr bad) ↦ inl (inr (bad.0, bad_pattern profile read bad.1))
  | inr memory ↦ inr memory
]

host_proper : (host : Host) → IsHost host → IsHost (entering_host host)
host_proper (h.Item attribute value selects) proper = proper
host_proper _ proper = proper

pub entering_proper : (operation : Operation) → IsProperCommand operation → IsProperCommand (entering operation)
entering_proper (w.Value (wv.Remove attributes values selects)) proper = proper
entering_proper (w.Value (wv.Replace attributes old new selects)) proper = proper
entering_proper (w.Value (wv.Substitute attributes pattern template selects)) proper = proper
entering_proper (w.Comment (wc.Add host text)) proper = (host_proper host proper.0, proper.1, proper.2)
entering_proper (w.Comment (wc.Print host)) proper = host_proper host proper
entering_proper (w.Comment (wc.Remove host)) proper = host_proper host proper
entering_proper _ proper = proper
