use Rattle.std.proofs.Common.{◌≡◌, length, rules, sym, ◌∙◌, All, subst, refl}
use Rattle.std.proofs.lemmas.List.{take_all}
use Rattle.std.proofs.lemmas.List.Elements.{All-map}
use Rattle.std.proofs.lemmas.Option.{slice_get_read}
use Rattle.mk_model.specs.Orders.{lead}
use Rattle.mk_model.specs.Reductions.{Divides}
use Rattle.mk_model.proofs.VectorAlgebra.{length-positive_part}
use Rattle.mk_move.specs.Moves.{Weighed}
use Rattle.mk_move.specs.Sides.{part_of}
use Rattle.mk_reduce.proofs.LeadLists.{lead_at, all_leads}
use Rattle.mk_reduce.proofs.plain.place_dividing.Goals as goal

pub lead_divides-requires : goal.lead_divides-requires
lead_divides-requires c =
    let m = c.index-moves-place.result in
    sym (length-positive_part m.entries)
    ∙ all_leads (λ x. length x ≡ length c.args.r.now.entries) c.args.moves.now c.loop-place.place m c.requires.columns
    (slice_get_read c.args.moves.now (length c.args.moves.now) c.loop-place.place m refl c.loop-place-test.true c.index-moves-place.is)

pub returns-then-lead_divides-clause-found : goal.returns-then-lead_divides-clause-found
returns-then-lead_divides-clause-found c =
    let m = c.index-moves-place.result in
    record {
      lead = lead m.entries;
      at = lead_at c.args.moves.now c.loop-place.place m (slice_get_read c.args.moves.now (length c.args.moves.now) c.loop-place.place m refl c.loop-place-test.true c.index-moves-place.is);
      divides = c.if-lead_divides.ensures.0 (search rules);
    }

pub returns-clause-none : goal.returns-clause-none
returns-clause-none c =
    let none = λ (m : Weighed). ¬ (Divides (lead m.entries) (part_of c.args.side c.args.r.now.entries)) in
    All-map (λ x. ¬ (Divides x (part_of c.args.side c.args.r.now.entries))) (λ m. lead m.entries) c.args.moves.now
    (subst (All none) (take_all c.loop-place.place c.args.moves.now c.loop-place-test.false) c.loop-place.invariant)
