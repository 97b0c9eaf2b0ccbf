-- Where nothing refuses a move, the prefix is the server's.
use Rattle.std.proofs.Common.{◌≡◌, ◌==◌, ℕ, Bool, true, false, not, List, refl, cond}
use Rattle.std.specs.Prelude.{Option, Some, None}
use Rattle.std.proofs.lemmas.Bool.{eqb-true}
use Rattle.fs_ident.specs.declared.actor.PathNo.{PathNo}
use Rattle.fs_field.specs.declared.row.Row.{Row}
use Rattle.fs_map.specs.Map.{Owners, server_of}
use Rattle.fs_record.specs.Records.{RecordMap}
use Rattle.fs_parcel.specs.Parcel.{move_refusal}

passed : {A : Type 0} (b : Bool) (x : A) (o : Option A) → cond (not b) (Some x) o ≡ None → b ≡ true
passed true x o h = refl
passed false x o h = absurd (cc)

pub is_mine : (records : RecordMap) (rows : List Row) (map : Owners) (me : ℕ) (prefix : List ℕ) (to : ℕ) (through : Option PathNo) → move_refusal records rows map me prefix to through ≡ None → server_of map prefix ≡ me
is_mine records rows map me prefix to through h = eqb-true (server_of map prefix) me (passed (server_of map prefix == me) _ _ h)
