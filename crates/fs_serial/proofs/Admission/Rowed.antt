-- The rows that the server finds for the uses of an entry.
use Rattle.std.proofs.Common.{◌≡◌, ◌==◌, ◌&&◌, not, true, List, refl, ap, ap₂}
use Rattle.std.proofs.lemmas.Bool.{not-false}
use Rattle.std.specs.Prelude.{None}
use Rattle.fs_ident.specs.Ident.{same}
use Rattle.fs_ident.specs.In.{In}
use Rattle.fs_ident.specs.declared.actor.Session.{Session}
use Rattle.fs_ident.proofs.Booleans.{both}
use Rattle.fs_ident.proofs.Standing.{none_pass, any_In}
use Rattle.fs_ident.proofs.Same.{one_session, same_is}
use Rattle.fs_field.specs.declared.field.Field.{Field}
use Rattle.fs_field.specs.declared.field.Field.TheVariants.{Life, Child, Names, Info, Own, SelfW, Other}
use Rattle.fs_field.specs.declared.lease_kind.LeaseKind.{LeaseKind}
use Rattle.fs_field.specs.declared.lease_kind.LeaseKind.TheVariants.{Shared, Exclusive}
use Rattle.fs_field.specs.declared.row.Row.{Row}
use Rattle.fs_field.specs.declared.used.Use.{Use}
use Rattle.fs_field.specs.Field.{same_field, same_mode}
use Rattle.fs_field.specs.Table.{is_lease, same_kind, has_no}
use Rattle.fs_field.proofs.SameNo.{same_no_is}
use Rattle.fs_server.specs.Ships.{has_row, first_gone}
use Rattle.fs_moderows.proofs.Witnesses.{same_mode_is}
use Rattle.fs_serial.specs.Pending.{AllStand, Stands}

pub same_field_is : (f g : Field) → same_field f g ≡ true → f ≡ g
same_field_is (Life a) (Life b) h = ap Life (same_is a b h)
same_field_is (Child a m) (Child b n) h = let q = both (same a b) (same m n) h in ap₂ Child (same_is a b q.0) (same_is m n q.1)
same_field_is (Names a) (Names b) h = ap Names (same_is a b h)
same_field_is (Info a) (Info b) h = ap Info (same_is a b h)
same_field_is (Own a) (Own b) h = ap Own (same_is a b h)
same_field_is (SelfW a m) (SelfW b n) h = let q = both (same a b) (same_mode m n) h in ap₂ SelfW (same_is a b q.0) (same_mode_is m n q.1)
same_field_is (Other a m) (Other b n) h = let q = both (same a b) (same_mode m n) h in ap₂ Other (same_is a b q.0) (same_mode_is m n q.1)
same_field_is f g h = absurd (cc)

pub same_kind_is : (k l : LeaseKind) → same_kind k l ≡ true → k ≡ l
same_kind_is Shared Shared h = refl
same_kind_is Exclusive Exclusive h = refl
same_kind_is k l h = absurd (cc)

pub row_is : (rows : List Row) (by : Session) (u : Use) (r : Row) → In r rows → is_lease u.no by u.field u.kind r ≡ true → Stands rows by u
row_is rows by u r i h =
    let p = both ((has_no u.no r && (r.session.0 == by.0)) && same_field r.field u.field) (same_kind r.kind u.kind) h in
    let q = both (has_no u.no r && (r.session.0 == by.0)) (same_field r.field u.field) p.0 in
    let k = both (has_no u.no r) (r.session.0 == by.0) q.0 in
    record { row = r; stands = i; number = same_no_is r.no u.no k.0; session = one_session r.session by k.1; field = same_field_is r.field u.field q.1; kind = same_kind_is r.kind u.kind p.1 }

-- where no use is without its row, each has one
pub all_found : (rows : List Row) (by : Session) (uses : List Use) → first_gone rows by uses ≡ None → AllStand rows by uses
all_found rows by uses h u i =
    let q = any_In (is_lease u.no by u.field u.kind) rows (not-false (has_row rows by u) (none_pass (λ u. not (has_row rows by u)) uses h u i)) in
    row_is rows by u q.0 q.1.0 q.1.1
