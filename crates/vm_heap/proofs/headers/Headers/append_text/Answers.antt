use Rattle.std.proofs.Common.{◌-◌, ◌++◌, length, arith, ap, ◌∙◌, Some}
use Rattle.std.proofs.lemmas.{List.length-set, Result.on_ok_weaker}
use Rattle.jvm_model.specs.World.{text_or_empty}
use Rattle.vm_heap.specs.Entries.{no_entry}
use Rattle.vm_heap.proofs.Entries.{objects_there, same_headers, covered, text_set, text_of}
use Rattle.vm_heap.proofs.headers.Headers.append_text.Goals as goal

pub invariant_of-self : goal.invariant_of-self
invariant_of-self c =
    let w = objects_there c.self.inside.headers.items c.self.inside.texts.items c.args.self.now c.args.object c.self.view_is c.requires in
    (c.cover.ensures.within (length c.self.inside.headers.items) c.self.invariant.0 w, c.self.invariant.1)

pub invariant_of-self-2 : goal.invariant_of-self-2
invariant_of-self-2 c =
    let w = objects_there c.self.inside.headers.items c.self.inside.texts.items c.args.self.now c.args.object c.self.view_is c.requires in
    let n = c.cover.ensures.within (length c.self.inside.headers.items) c.self.invariant.0 w in
    let l = length-set c.cover.new.texts.items c.args.object c.append.new.self in
    (omega arith, c.self.invariant.1)

pub returns-clause-appended : goal.returns-clause-appended
returns-clause-appended c =
    let xs = c.self.inside.headers.items in
    let ts = c.self.inside.texts.items in
    let us = c.cover.new.texts.items in
    let o = c.args.object in
    let w = objects_there xs ts c.args.self.now o c.self.view_is c.requires in
    let seen = covered xs ts us c.args.self.now (length us - length ts) c.cover.ensures.covered c.self.view_is in
    let there = c.in_ok-cover.ensures.there in
    let same = text_of xs us c.args.self.now o c.index_mut.result.now no_entry seen w there c.index_mut.ensures.value in
    on_ok_weaker c.append.result (λ e. text_set xs us c.args.self.now o c.append.new.self _ no_entry seen w there (e ∙ ap (λ u. Some (text_or_empty u ++ c.args.more.now)) same)) c.append.ensures

pub returns-clause-headers : goal.returns-clause-headers
returns-clause-headers c = same_headers c.self.inside.headers.items c.self.inside.texts.items _ c.args.self.now c.self.view_is

pub returns-in_err-cover-clause-headers : goal.returns-in_err-cover-clause-headers
returns-in_err-cover-clause-headers c = same_headers c.self.inside.headers.items c.self.inside.texts.items _ c.args.self.now c.self.view_is
