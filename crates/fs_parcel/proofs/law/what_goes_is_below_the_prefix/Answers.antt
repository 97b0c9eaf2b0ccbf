use Rattle.std.proofs.Common.{ap, sym, ◌∙◌, cond}
use Rattle.std.specs.Prelude.{None}
use Rattle.std.specs.FinMap.{get}
use Rattle.fs_field.specs.Field.{file_of}
use Rattle.fs_map.specs.Lists.{piece_of}
use Rattle.fs_map.proofs.Owned.{piece_piece}
use Rattle.fs_parcel.proofs.Parting.{rows_that_go, rows_that_stay, records_that_go, records_that_stay}
use Rattle.fs_parcel.proofs.law.what_goes_is_below_the_prefix.Goals as goal

pub returns-clause-rows_go : goal.returns-clause-rows_go
returns-clause-rows_go c = λ records rows map me prefix row m mine.
    let is = (piece_piece map me prefix mine).1 (file_of row.field) in
    let q = rows_that_go prefix (piece_of map me prefix) rows row in
    (λ i. ((q.0 i).0, sym is ∙ (q.0 i).1), λ h. q.1 (h.0, is ∙ h.1))

pub returns-clause-rows_stay : goal.returns-clause-rows_stay
returns-clause-rows_stay c = λ rows map me prefix row m mine.
    let is = (piece_piece map me prefix mine).1 (file_of row.field) in
    let q = rows_that_stay prefix (piece_of map me prefix) rows row in
    (λ i. ((q.0 i).0, sym is ∙ (q.0 i).1), λ h. q.1 (h.0, is ∙ h.1))

pub returns-clause-records_go : goal.returns-clause-records_go
returns-clause-records_go c = λ records rows map me prefix file m mine.
    records_that_go records prefix file (piece_of map me prefix) ∙ ap (λ b. cond b (get records file) None) ((piece_piece map me prefix mine).1 file)

pub returns-clause-records_stay : goal.returns-clause-records_stay
returns-clause-records_stay c = λ records map me prefix file m mine.
    records_that_stay records prefix file (piece_of map me prefix) ∙ ap (λ b. cond b None (get records file)) ((piece_piece map me prefix mine).1 file)
