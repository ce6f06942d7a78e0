use Rattle.std.proofs.Common.{◌∙◌, ap, length, option_copied}
use Rattle.sim_store.specs.declared.store.Part.TheVariants as part
use Rattle.access_tags.proofs.{NamesKept.number_found, NamesKept.number_missing, names.Names.find.Goals.in-File, names.Names.find.Goals.in-Prop}
use Rattle.access_tags.proofs.names.Names.find.Goals as goal

pub returns-in-Some-clause-number : goal.returns-in-Some-clause-number
returns-in-Some-clause-number c = elim c.match-part.branch [
  | in-File w ↦ rw w.in-File.is (number_found part.File c.self.inside.known.items c.args.self.now c.self.inside.files.entries w.as_slice.result.now c.args.name.now c.match-part.known c.self.view_is w.as_slice.ensures c.self.invariant.file_numbers (ap option_copied w.known-is ∙ w.get-known.ensures.value) c.in-Some.number c.in-Some.is).0
  | in-Prop w ↦ rw w.in-Prop.is (number_found part.Prop c.self.inside.known.items c.args.self.now c.self.inside.props.entries w.as_slice-in-Prop.result.now c.args.name.now c.match-part.known c.self.view_is w.as_slice-in-Prop.ensures c.self.invariant.prop_numbers (ap option_copied w.known-is ∙ w.get-known-in-Prop.ensures.value) c.in-Some.number c.in-Some.is).0
]

pub returns-in-Some-clause-bound : goal.returns-in-Some-clause-bound
returns-in-Some-clause-bound c = elim c.match-part.branch [
  | in-File w ↦ (number_found part.File c.self.inside.known.items c.args.self.now c.self.inside.files.entries w.as_slice.result.now c.args.name.now c.match-part.known c.self.view_is w.as_slice.ensures c.self.invariant.file_numbers (ap option_copied w.known-is ∙ w.get-known.ensures.value) c.in-Some.number c.in-Some.is).1
  | in-Prop w ↦ (number_found part.Prop c.self.inside.known.items c.args.self.now c.self.inside.props.entries w.as_slice-in-Prop.result.now c.args.name.now c.match-part.known c.self.view_is w.as_slice-in-Prop.ensures c.self.invariant.prop_numbers (ap option_copied w.known-is ∙ w.get-known-in-Prop.ensures.value) c.in-Some.number c.in-Some.is).1
]

pub returns-in-None-clause-number : goal.returns-in-None-clause-number
returns-in-None-clause-number c = c.len.ensures ∙ (c.self.inside.known.ok.0 ∙ (ap length c.self.view_is ∙ elim c.match-part.branch [
  | in-File w ↦ rw w.in-File.is (number_missing part.File c.self.inside.known.items c.args.self.now c.self.inside.files.entries w.as_slice.result.now c.args.name.now c.match-part.known c.self.view_is w.as_slice.ensures c.self.invariant.file_numbers (ap option_copied w.known-is ∙ w.get-known.ensures.value) c.in-None.is)
  | in-Prop w ↦ rw w.in-Prop.is (number_missing part.Prop c.self.inside.known.items c.args.self.now c.self.inside.props.entries w.as_slice-in-Prop.result.now c.args.name.now c.match-part.known c.self.view_is w.as_slice-in-Prop.ensures c.self.invariant.prop_numbers (ap option_copied w.known-is ∙ w.get-known-in-Prop.ensures.value) c.in-None.is)
]))
