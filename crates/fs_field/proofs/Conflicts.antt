-- Conflicts of rows.
use Rattle.std.proofs.Common.{◌≡◌, ◌==◌, not, ◌&&◌, ◌||◌, Bool, true, false, ℕ, List, refl, ap, sym, ◌∙◌}
use Rattle.std.proofs.Math.Bool.{or_comm, and-false, or-false}
use Rattle.std.specs.Cmp.{nat_eq_equiv}
use Rattle.std.specs.Cmp.Lexicographic.{nat_list_eq_equiv, same_text}
use Rattle.std.specs.Prelude.{Option, Some, None}
use Rattle.fs_field.specs.declared.field.Field.{Field}
use Rattle.fs_field.specs.declared.field.Field.TheVariants.{Life, Child, Names, Info, Own, SelfW, Other}
use Rattle.fs_field.specs.declared.lease_kind.LeaseKind.{LeaseKind}
use Rattle.fs_field.specs.declared.row.Row.{Row}
use Rattle.fs_ident.specs.declared.actor.Session.{Session}
use Rattle.fs_ident.specs.Ident.{same}
use Rattle.fs_ident.specs.In.{In}
use Rattle.fs_ident.proofs.Booleans.{first}
use Rattle.fs_modes.specs.declared.modes.Mode.{Mode}
use Rattle.fs_field.specs.Conflict.{Selves, is_self, one_shared, names_over, meets, is_exclusive, plain_conflict, mode_meets, mode_conflict, conflicts, NoConflict, NoPlainConflict}
use Rattle.fs_field.specs.Field.{file_of, same_mode, tells_no_mode}

shared_mutual : (f g : Field) → one_shared f g ≡ one_shared g f
shared_mutual (Life a) (Life b) = nat_list_eq_equiv.symm a b
shared_mutual (Child a m) (Child b n) = ap (λ x. x && same m n) (nat_list_eq_equiv.symm a b) ∙ ap (λ x. same b a && x) (nat_list_eq_equiv.symm m n)
shared_mutual (Names a) (Names b) = nat_list_eq_equiv.symm a b
shared_mutual (Info a) (Info b) = nat_list_eq_equiv.symm a b
shared_mutual (Own a) (Life b) = refl
shared_mutual (Own a) (Child b n) = refl
shared_mutual (Own a) (Names b) = refl
shared_mutual (Own a) (Info b) = refl
shared_mutual (Own a) (Own b) = refl
shared_mutual (Own a) (SelfW b n) = refl
shared_mutual (Own a) (Other b n) = refl
shared_mutual (SelfW a m) (Life b) = refl
shared_mutual (SelfW a m) (Child b n) = refl
shared_mutual (SelfW a m) (Names b) = refl
shared_mutual (SelfW a m) (Info b) = refl
shared_mutual (SelfW a m) (Own b) = refl
shared_mutual (SelfW a m) (SelfW b n) = refl
shared_mutual (SelfW a m) (Other b n) = refl
shared_mutual (Other a m) (Life b) = refl
shared_mutual (Other a m) (Child b n) = refl
shared_mutual (Other a m) (Names b) = refl
shared_mutual (Other a m) (Info b) = refl
shared_mutual (Other a m) (Own b) = refl
shared_mutual (Other a m) (SelfW b n) = refl
shared_mutual (Other a m) (Other b n) = refl
shared_mutual f g = refl

meets_mutual : (f : Field) (k : LeaseKind) (g : Field) (l : LeaseKind) → meets f k g l ≡ meets g l f k
meets_mutual f k g l =
    ap (λ x. (x && (is_exclusive k || is_exclusive l)) || ((names_over f g && is_exclusive l) || (names_over g f && is_exclusive k))) (shared_mutual f g)
    ∙ ap (λ x. (one_shared g f && x) || ((names_over f g && is_exclusive l) || (names_over g f && is_exclusive k))) (or_comm (is_exclusive k) (is_exclusive l))
    ∙ ap (λ x. (one_shared g f && (is_exclusive l || is_exclusive k)) || x) (or_comm (names_over f g && is_exclusive l) (names_over g f && is_exclusive k))

other_session : (a b : Row) → not (a.session.0 == b.session.0) ≡ not (b.session.0 == a.session.0)
other_session a b = ap not (nat_eq_equiv.symm a.session.0 b.session.0)

pub plain_mutual : (a b : Row) → plain_conflict a b ≡ plain_conflict b a
plain_mutual a b =
    ap (λ x. x && meets a.field a.kind b.field b.kind) (other_session a b)
    ∙ ap (λ x. not (b.session.0 == a.session.0) && x) (meets_mutual a.field a.kind b.field b.kind)

mode_mutual : (selves : Selves) (rows : List Row) (a b : Row) → mode_conflict selves rows a b ≡ mode_conflict selves rows b a
mode_mutual selves rows a b =
    ap (λ x. x && (mode_meets selves rows a.session a.field a.promise b.session b.field || mode_meets selves rows b.session b.field b.promise a.session a.field)) (other_session a b)
    ∙ ap (λ x. not (b.session.0 == a.session.0) && x) (or_comm (mode_meets selves rows a.session a.field a.promise b.session b.field) (mode_meets selves rows b.session b.field b.promise a.session a.field))

pub conflicts_mutual : (selves : Selves) (rows : List Row) (a b : Row) → conflicts selves rows a b ≡ conflicts selves rows b a
conflicts_mutual selves rows a b =
    ap (λ x. x || mode_conflict selves rows a b) (plain_mutual a b)
    ∙ ap (λ x. plain_conflict b a || x) (mode_mutual selves rows a b)

off_modes : (selves : Selves) (rows : List Row) (x : Session) (f : Field) (p : Option Bool) (y : Session) (g : Field) → tells_no_mode f ≡ true → mode_meets selves rows x f p y g ≡ false
off_modes selves rows x (Life f) p y g h = refl
off_modes selves rows x (Child f n) p y g h = refl
off_modes selves rows x (Names f) p y g h = refl
off_modes selves rows x (Info f) p y g h = refl
off_modes selves rows x (Own f) p y g h = refl
off_modes selves rows x (SelfW f m) p y g h = absurd (cc)
off_modes selves rows x (Other f m) p y g h = absurd (cc)

no_promise : (selves : Selves) (rows : List Row) (a b : Row) → tells_no_mode a.field ≡ true → mode_meets selves rows a.session a.field a.promise b.session b.field ≡ false
no_promise selves rows a b h = off_modes selves rows a.session a.field a.promise b.session b.field h

pub plain_is_all : (selves : Selves) (rows : List Row) (a b : Row) → tells_no_mode a.field ≡ true → tells_no_mode b.field ≡ true → conflicts selves rows a b ≡ plain_conflict a b
plain_is_all selves rows a b ha hb =
    ap (λ x. plain_conflict a b || (not (a.session.0 == b.session.0) && (x || mode_meets selves rows b.session b.field b.promise a.session a.field))) (no_promise selves rows a b ha)
    ∙ ap (λ x. plain_conflict a b || (not (a.session.0 == b.session.0) && x)) (no_promise selves rows b a hb)
    ∙ ap (λ x. plain_conflict a b || x) (and-false (not (a.session.0 == b.session.0)))
    ∙ or-false (plain_conflict a b)

pub all_are_plain : (selves : Selves) (rows : List Row) → ((row : Row) → In row rows → tells_no_mode row.field ≡ true) → NoConflict selves rows → NoPlainConflict rows
all_are_plain selves rows plain free a b ia ib = sym (plain_is_all selves rows a b (plain a ia) (plain b ib)) ∙ free a b ia ib

pub plain_are_all : (selves : Selves) (rows : List Row) → ((row : Row) → In row rows → tells_no_mode row.field ≡ true) → NoPlainConflict rows → NoConflict selves rows
plain_are_all selves rows plain quiet a b ia ib = plain_is_all selves rows a b (plain a ia) (plain b ib) ∙ quiet a b ia ib

pub as_false : (selves : Selves) (rows : List Row) (x y : Session) (f g : Field) → mode_meets selves rows x f None y g ≡ mode_meets selves rows x f (Some false) y g
as_false selves rows x y (Other f m) (SelfW g n) = refl
as_false selves rows x y f g = refl

-- ## What a row tells of modes

-- a row by which a session changes what it tells of the file is on it, and tells of a mode
pub self_file : (f : List ℕ) (m : Mode) (g : Field) → is_self f m g ≡ true → file_of g ≡ f
self_file f m (SelfW g n) h = sym (same_text f g (sym (first (same f g) (same_mode m n) h)))
self_file f m g h = absurd (cc)

pub self_on : (f : List ℕ) (m : Mode) (g : Field) → is_self f m g ≡ true → not (tells_no_mode g) ≡ true
self_on f m (SelfW g n) h = refl
self_on f m g h = absurd (cc)
