use Rattle.std.proofs.Common.{◌≡◌, Bool, true, false, not, ◌&&◌, refl, ap, sym, ◌∙◌}
use Rattle.fs_map.specs.Lists.{owns_given}
use Rattle.fs_model.specs.Step.{is_empty}
use Rattle.fs_record.specs.Moving.{records_given}
use Rattle.fs_parcel.proofs.Formed.{formed, formed_piece}
use Rattle.fs_parcel.proofs.fitting.is_elsewhere.Goals as goal

twice : (b : Bool) → not (not b) ≡ b
twice true = refl
twice false = refl

pub owns_given-requires : goal.owns_given-requires
owns_given-requires c = formed_piece c.args.p.now c.requires

pub returns-then-not-owns_given : goal.returns-then-not-owns_given
returns-then-not-owns_given c =
    let p = c.args.p.now in
    let same = (formed p c.requires).prefix in
    ap not c.has_given.ensures
    ∙ twice (is_empty (records_given p.piece.prefix p.piece.given c.args.records.now))
    ∙ ap (λ prefix. is_empty (records_given prefix p.piece.given c.args.records.now)) same
    ∙ ap (λ b. b && is_empty (records_given p.prefix p.piece.given c.args.records.now)) (ap not (sym c.if-not-owns_given.true ∙ c.owns_given.ensures.places ∙ ap (λ prefix. owns_given c.args.map.now c.args.me prefix p.piece.given) same))
