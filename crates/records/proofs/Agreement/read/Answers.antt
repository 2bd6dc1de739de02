-- Each test refuses what `listed` refuses, and the two walks store the places that the index asks for.
use mathlib.Core.Path.{refl, sym, ◌∙◌}
use native.Mathlib.Nat.{le_refl}
use Rattle.std.proofs.Common.{rules}
use Rattle.std.proofs.lemmas.List.{length-take-le}
use Rattle.records.proofs.Listed.{listed_short, listed_uncounted, few_readings_lem, few_templates_lem}
use Rattle.records.proofs.Listed.{readings_room, templates_room, listed_no_reading, listed_no_template}
use Rattle.records.proofs.Listed.{listed_as, indexed}
use Rattle.records.proofs.Agreement.read.Goals as goal

pub returns-then-bytes-lt-READINGS_FROM : goal.returns-then-bytes-lt-READINGS_FROM
returns-then-bytes-lt-READINGS_FROM c = search (listed_short, listed_uncounted, rules)

pub slice_bounds-readings-end : goal.slice_bounds-readings-end
slice_bounds-readings-end c =
    few_readings_lem c.args.bytes.now c.counts_ok.ensures c.if-not-counts_ok.false c.byte-n.ensures.0

pub slice_bounds-place_records-end : goal.slice_bounds-place_records-end
slice_bounds-place_records-end c =
    let few = few_readings_lem c.args.bytes.now c.counts_ok.ensures c.if-not-counts_ok.false c.byte-n.ensures.0 in
    sym (length-take-le _ _ few)

pub returns-in_err-first : goal.returns-in_err-first
returns-in_err-first c =
    let s = c.args.bytes.now in
    let told = c.if-not-counts_ok.false in
    let room = readings_room s c.counts_ok.ensures told _ (le_refl 16) c.byte-n.ensures.0 in
    rw c.from_residual.ensures
    (listed_no_reading s c.counts_ok.ensures told (λ q b r. search rules) room c.in_err-first.ensures.answer)

pub slice_bounds-templates-end : goal.slice_bounds-templates-end
slice_bounds-templates-end c =
    few_templates_lem c.args.bytes.now c.counts_ok.ensures c.if-not-counts_ok.false c.byte-m.ensures.0

pub slice_bounds-place_records-end-2 : goal.slice_bounds-place_records-end-2
slice_bounds-place_records-end-2 c =
    let few = few_templates_lem c.args.bytes.now c.counts_ok.ensures c.if-not-counts_ok.false c.byte-m.ensures.0 in
    sym (length-take-le _ _ few)

pub returns-in_err-main : goal.returns-in_err-main
returns-in_err-main c =
    let s = c.args.bytes.now in
    let told = c.if-not-counts_ok.false in
    let room = c.in_ok-first.ensures.room
    ∙ readings_room s c.counts_ok.ensures told _ (le_refl 16) c.byte-n.ensures.0 in
    let room₂ = templates_room s c.counts_ok.ensures told _ (le_refl 32) c.byte-m.ensures.0 in
    rw c.from_residual-in_err-main.ensures
    (listed_no_template s c.counts_ok.ensures told (λ q b r. search rules) room c.in_ok-first.ensures.answer
    (λ q b r. search rules) room₂ c.in_err-main.ensures.answer)

pub invariant_of-agreement : goal.invariant_of-agreement
invariant_of-agreement c =
    let s = c.args.bytes.now in
    let told = c.if-not-counts_ok.false in
    let room = c.in_ok-first.ensures.room
    ∙ readings_room s c.counts_ok.ensures told _ (le_refl 16) c.byte-n.ensures.0 in
    let room₂ = c.in_ok-main.ensures.room
    ∙ templates_room s c.counts_ok.ensures told _ (le_refl 32) c.byte-m.ensures.0 in
    indexed s c.counts_ok.ensures told (λ q b r. search rules) room c.in_ok-first.ensures.answer
    (λ q b r. search rules) room₂ c.in_ok-main.ensures.answer _ _

pub returns-then-one_kind : goal.returns-then-one_kind
returns-then-one_kind c =
    let s = c.args.bytes.now in
    let told = c.if-not-counts_ok.false in
    let room = c.in_ok-first.ensures.room
    ∙ readings_room s c.counts_ok.ensures told _ (le_refl 16) c.byte-n.ensures.0 in
    let room₂ = c.in_ok-main.ensures.room
    ∙ templates_room s c.counts_ok.ensures told _ (le_refl 32) c.byte-m.ensures.0 in (
      refl,
      listed_as s c.counts_ok.ensures told (λ q b r. search rules) room c.in_ok-first.ensures.answer
          (λ q b r. search rules) room₂ c.in_ok-main.ensures.answer ∙ sym c.one_kind.ensures.0 ∙ c.if-one_kind.true,
      c.one_kind.ensures.1,
    )

pub returns-else-one_kind : goal.returns-else-one_kind
returns-else-one_kind c =
    let s = c.args.bytes.now in
    let told = c.if-not-counts_ok.false in
    let room = c.in_ok-first.ensures.room
    ∙ readings_room s c.counts_ok.ensures told _ (le_refl 16) c.byte-n.ensures.0 in
    let room₂ = c.in_ok-main.ensures.room
    ∙ templates_room s c.counts_ok.ensures told _ (le_refl 32) c.byte-m.ensures.0 in
    listed_as s c.counts_ok.ensures told (λ q b r. search rules) room c.in_ok-first.ensures.answer
    (λ q b r. search rules) room₂ c.in_ok-main.ensures.answer ∙ sym c.one_kind.ensures.0 ∙ c.if-one_kind.false
