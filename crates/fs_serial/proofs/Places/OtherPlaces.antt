-- A server, and beside it what stands at all other places: the server that has all.
use Rattle.std.proofs.Common.{◌≡◌, ℕ, ◌+◌, ◌==◌, Bool, true, false, List, refl, ap, ap₂, subst, sym, ◌∙◌, inl, inr}
use Rattle.std.specs.Prelude.{Option, is_some}
use Rattle.std.specs.List.{find, list_any}
use Rattle.std.specs.FinMap.{get}
use Rattle.fs_ident.specs.In.{In}
use Rattle.fs_ident.specs.Ident.{same}
use Rattle.fs_ident.specs.Ordered.{Keyed}
use Rattle.fs_ident.specs.declared.actor.LeaseNo.{LeaseNo}
use Rattle.fs_ident.specs.declared.actor.Session.{Session}
use Rattle.fs_ident.proofs.Standing.{none_any}
use Rattle.fs_ident.proofs.Same.{same_is}
use Rattle.fs_field.specs.declared.effect.Effect.{Effect}
use Rattle.fs_field.specs.declared.field.Field.{Field}
use Rattle.fs_field.specs.declared.field.Field.TheVariants.{SelfW, Other}
use Rattle.fs_field.specs.declared.lease_kind.LeaseKind.{LeaseKind}
use Rattle.fs_field.specs.declared.row.Row.{Row}
use Rattle.fs_field.specs.Field.{file_of}
use Rattle.fs_field.specs.Table.{has_no, is_ordered}
use Rattle.fs_field.proofs.Order.{ordered_put}
use Rattle.fs_field.proofs.SameNo.{same_no_symm}
use Rattle.fs_map.specs.Map.{server_of}
use Rattle.fs_moderows.specs.Answer.{answer_other, answer_self, given_row}
use Rattle.fs_field.specs.After.{changed_file}
use Rattle.fs_record.specs.Applied.{records_after_all}
use Rattle.fs_record.specs.Moving.{with_records}
use Rattle.fs_record.specs.Records.{node_of}
use Rattle.fs_record.specs.ValueOf.{handles_of, selves_in, selves_of, value_at, value_of}
use Rattle.fs_record.specs.declared.record.Record.{Record}
use Rattle.fs_rows.specs.Given.{AreGiven}
use Rattle.fs_rows.specs.Granted.{with_rows}
use Rattle.fs_rows.proofs.Numbers.{given_new, given_next}
use Rattle.fs_server.specs.Asks.{answer_to, with_lease}
use Rattle.fs_server.specs.Server.{end_of, is_mine, next_number}
use Rattle.fs_server.specs.declared.state.Server.{Server}
use Rattle.fs_serial.proofs.Grants.Leased.{In-with_row}
use Rattle.fs_serial.proofs.Places.PutRecords.{AreOn, AreOther, effects_home, effects_past, get_past}
use Rattle.fs_serial.proofs.Places.PutRows.{In-puts_here, IsOther, puts_other, put_past}
use Rattle.fs_serial.proofs.Places.Unseen.{AreOff, answer_past, find_past, other_past, self_past}

pub record Rest : Type 0 where
  pub rows : List Row
  pub records : Keyed Record

-- the server with these too
abbrev pub joined : Rest → Server → Server
joined rest s = record s { rows = with_rows rest.rows s.rows; records = with_records rest.records s.records }

-- the rest is on files that others manage, what the server has on those that it manages; and no two rows have one number
pub record IsApart (rest : Rest) (s : Server) : Type 0 where
  pub rows : (r : Row) → In r rest.rows → is_mine s (file_of r.field) ≡ false
  pub records : (e : List ℕ × Record) → In e rest.records → is_mine s e.0 ≡ false
  pub own_rows : (r : Row) → In r s.rows → is_mine s (file_of r.field) ≡ true
  pub own_records : (id : List ℕ) → is_some (get s.records id) ≡ true → is_mine s id ≡ true
  pub ordered : is_ordered (with_rows rest.rows s.rows) ≡ true

-- and the numbers of this server are up to its count
pub record IsCounted (rest : Rest) (s : Server) : Type 0 where
  pub apart : IsApart rest s
  pub given : AreGiven s.me s.given (with_rows rest.rows s.rows)

-- the server is the same, and knows the same map
pub record IsSelf (s t : Server) : Type 0 where
  pub me : t.me ≡ s.me
  pub skew : t.skew ≡ s.skew
  pub last : t.last ≡ s.last
  pub map : t.map ≡ s.map

pub itself : (s : Server) → IsSelf s s
itself s = record { me = refl; skew = refl; last = refl; map = refl }

pub mine_still : (s t : Server) → IsSelf s t → (id : List ℕ) → is_mine t id ≡ is_mine s id
mine_still s t h id = ap₂ (λ owners me. server_of owners id == me) h.map h.me

-- ## What is read of a file of its own

module _ (rest : Rest) (s : Server) (a : IsApart rest s) where
  pub off_file : (file : List ℕ) → is_mine s file ≡ true → AreOff file rest.rows
  off_file file mine r i =
      elim (same (file_of r.field) file) as (λ b. same (file_of r.field) file ≡ b → b ≡ false) [
        | true ↦ λ e. let wrong : true ≡ false = sym mine ∙ ap (is_mine s) (sym (same_is (file_of r.field) file e)) ∙ a.rows r i in absurd (cc)
        | false ↦ λ e. refl
      ] refl

  pub off_records : (file : List ℕ) → is_mine s file ≡ true → AreOther file rest.records
  off_records file mine e i q = let wrong : true ≡ false = sym mine ∙ ap (is_mine s) (sym q) ∙ a.records e i in absurd (cc)

  pub record_here : (file : List ℕ) → is_mine s file ≡ true → get (joined rest s).records file ≡ get s.records file
  record_here file mine = get_past rest.records s.records file (off_records file mine)

  pub value_here : (by : Session) (field : Field) → is_mine s (file_of field) ≡ true → value_of (joined rest s).records by field ≡ value_of s.records by field
  value_here by field mine = ap (λ o. value_at by field (node_of o)) (record_here (file_of field) mine)

  pub selves_here : (file : List ℕ) → is_mine s file ≡ true → selves_in (joined rest s).records file ≡ selves_in s.records file
  selves_here file mine = ap (λ o. selves_of (handles_of (node_of o))) (record_here file mine)

  -- a question for a lease
  pub answer_here : (by : Session) (field : Field) (kind : LeaseKind) → is_mine s (file_of field) ≡ true → answer_to by field kind (joined rest s) ≡ answer_to by field kind s
  answer_here by (SelfW file m) kind mine = ap (λ o. answer_self o (with_rows rest.rows s.rows) by file m) (selves_here file mine) ∙ self_past (selves_in s.records file) rest.rows s.rows by file m (off_file file mine)
  answer_here by (Other file m) kind mine = ap (λ o. answer_other o (with_rows rest.rows s.rows) by file m) (selves_here file mine) ∙ other_past (selves_in s.records file) rest.rows s.rows by file m (off_file file mine)
  answer_here by field kind mine = answer_past rest.rows s.rows by field kind (off_file (file_of field) mine)

  -- no row of the rest has the number of one here
  pub number_here : (r : Row) (n : LeaseNo) → In r s.rows → r.no ≡ n → (x : Row) → In x rest.rows → has_no n x ≡ false
  number_here r n i e x j = ap (λ k. has_no k x) (sym e) ∙ same_no_symm x.no r.no ∙ puts_other rest.rows s.rows a.ordered x j r i

  pub found_here : (r : Row) (n : LeaseNo) → In r s.rows → r.no ≡ n → find (has_no n) (joined rest s).rows ≡ find (has_no n) s.rows
  found_here r n i e = find_past (has_no n) rest.rows s.rows (number_here r n i e)

  -- ## Effects

  pub effects_joined : (effects : List Effect) → AreOn (is_mine s) effects → records_after_all (joined rest s).records effects ≡ with_records rest.records (records_after_all s.records effects)
  effects_joined effects on = sym (effects_past rest.records s.records effects (λ e i. off_records (changed_file e) (on e i)))

  pub effects_apart : (effects : List Effect) → AreOn (is_mine s) effects → (id : List ℕ) → is_some (get (records_after_all s.records effects) id) ≡ true → is_mine s id ≡ true
  effects_apart effects on = effects_home (is_mine s) s.records effects on a.own_records

-- ## One lease more

module _ (rest : Rest) (s : Server) (h : IsCounted rest s) (by : Session) (field : Field) (kind : LeaseKind) (promise : Option Bool) where
  abbrev row : Row
  row = given_row (next_number s) by field kind (end_of s) promise

  new : list_any (has_no (next_number s)) (with_rows rest.rows s.rows) ≡ false
  new = given_new s.me s.given (with_rows rest.rows s.rows) h.given

  other : IsOther row rest.rows
  other x i = none_any (has_no (next_number s)) (with_rows rest.rows s.rows) new x (In-puts_here x rest.rows s.rows i)

  pub lease_joined : with_lease by field kind promise (joined rest s) ≡ joined rest (with_lease by field kind promise s)
  lease_joined = ap (λ rows. let t : Server = record s { given = s.given + 1; rows = rows; records = with_records rest.records s.records } in t) (sym (put_past row rest.rows s.rows other))

  pub lease_counted : is_mine s (file_of field) ≡ true → IsCounted rest (with_lease by field kind promise s)
  lease_counted mine = record {
    apart = record {
      rows = h.apart.rows;
      records = h.apart.records;
      own_rows = λ x i. elim (In-with_row x row s.rows i) as (λ _. is_mine s (file_of x.field) ≡ true) [
        | inl e ↦ ap (λ (z : Row). is_mine s (file_of z.field)) e ∙ mine
        | inr j ↦ h.apart.own_rows x j
      ];
      own_records = h.apart.own_records;
      ordered = subst (λ rows. is_ordered rows ≡ true) (sym (put_past row rest.rows s.rows other)) (ordered_put row (with_rows rest.rows s.rows) new h.apart.ordered);
    };
    given = subst (AreGiven s.me (s.given + 1)) (sym (put_past row rest.rows s.rows other)) (given_next s.me s.given row (with_rows rest.rows s.rows) refl h.given);
  }
