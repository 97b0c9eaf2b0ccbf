-- One lease more.
use Rattle.std.proofs.Common.{◌≡◌, ◌==◌, ℕ, ◌+◌, ◌<◌, ◌≤◌, ◌^◌, ◌&&◌, Bool, false, List, [], ◌∷◌, ◌++◌, length, refl, ap, sym, subst, ◌∙◌, arith, length-append}
use Rattle.std.specs.Prelude.{Option}
use Rattle.std.specs.List.{find}
use Rattle.std.proofs.lemmas.Bool.Decides.{nat_tests}
use Rattle.fs_ident.specs.declared.actor.Session.{Session}
use Rattle.fs_field.specs.declared.field.Field.{Field}
use Rattle.fs_field.specs.declared.field.Field.TheVariants.{SelfW, Other}
use Rattle.fs_field.specs.declared.lease_kind.LeaseKind.{LeaseKind}
use Rattle.fs_field.specs.declared.row.Row.{Row}
use Rattle.fs_field.specs.Table.{has_no, no_before}
use Rattle.fs_moderows.specs.Answer.{given_row}
use Rattle.fs_record.specs.ValueOf.{selves_in}
use Rattle.fs_rows.specs.Granted.{with_rows}
use Rattle.fs_rows.proofs.Granting.{find_put, same_answer, with_rows-append}
use Rattle.fs_rows.proofs.Numbers.{given_next}
use Rattle.fs_server.specs.declared.state.Server.{Server}
use Rattle.fs_server.specs.Asks.{answer_to, with_lease}
use Rattle.fs_server.specs.Grants.{IsLent, IsReady, with_leases}
use Rattle.fs_server.specs.Rows.{AreRows}
use Rattle.fs_server.specs.Server.{next_number, end_of}
use Rattle.fs_server.proofs.Own.{same_self, same_other}

-- the row of the session's next lease
abbrev pub next_row : Session → Field → LeaseKind → Option Bool → List Row → Server → Row
next_row by field kind promise rows s = given_row (next_number (with_leases rows s)) by field kind (end_of s) promise

-- no lease yet
pub none_lent : (s : Server) → with_leases [] s ≡ s
none_lent s = ap (λ n. let t : Server = record s { given = n } in t) (omega arith)

-- one lease more at the end
pub lent-append : (by : Session) (field : Field) (kind : LeaseKind) (promise : Option Bool) (rows : List Row) (s : Server) → with_leases (rows ++ next_row by field kind promise rows s ∷ []) s ≡ with_lease by field kind promise (with_leases rows s)
lent-append by field kind promise rows s =
    let count : s.given + length (rows ++ next_row by field kind promise rows s ∷ []) ≡ (s.given + length rows) + 1 = omega (arith, length-append rows (next_row by field kind promise rows s ∷ [])) in
    ap (λ n. let t : Server = record s { given = n; rows = with_rows (rows ++ next_row by field kind promise rows s ∷ []) s.rows } in t) count
    ∙ ap (λ more. let t : Server = record s { given = (s.given + length rows) + 1; rows = more } in t) (with_rows-append rows (next_row by field kind promise rows s) s.rows)

-- a lease that the session is given changes none of its answers
pub same_answers : (by : Session) (field : Field) (kind : LeaseKind) (promise : Option Bool) (s : Server) (g : Field) (k : LeaseKind) → answer_to by g k (with_lease by field kind promise s) ≡ answer_to by g k s
same_answers by field kind promise s (SelfW f m) k = same_self (selves_in s.records f) (given_row (next_number s) by field kind (end_of s) promise) s.rows f m refl
same_answers by field kind promise s (Other f m) k = same_other (selves_in s.records f) (given_row (next_number s) by field kind (end_of s) promise) s.rows f m refl
same_answers by field kind promise s g k = same_answer (given_row (next_number s) by field kind (end_of s) promise) by s.rows g k refl refl

-- an earlier number is not that of the next lease
other_no : (me next server count given : ℕ) → given < next → (server ≡ me → count ≤ given) → ((me == server) && (next == count)) ≡ false
other_no me next server count given p h = grind (arith, nat_tests)

-- none lent, nothing changed
pub lent_none : (by : Session) (s : Server) → IsReady s → IsLent by [] s
lent_none by s r = record {
  answers = λ field kind. ap (answer_to by field kind) (none_lent s);
  new = λ number h. refl;
  ready = subst IsReady (sym (none_lent s)) r;
}

-- one lease more, where the rows stay in order
pub lent_more : (by : Session) (field : Field) (kind : LeaseKind) (promise : Option Bool) (rows : List Row) (s : Server) → IsLent by rows s → (with_leases rows s).given + 1 < 2 ^ 64 → AreRows (with_lease by field kind promise (with_leases rows s)).rows → IsLent by (rows ++ next_row by field kind promise rows s ∷ []) s
lent_more by field kind promise rows s l fits t = record {
  answers = λ g k. ap (answer_to by g k) (lent-append by field kind promise rows s) ∙ same_answers by field kind promise (with_leases rows s) g k ∙ l.answers g k;
  new = λ number h. ap (find (has_no number)) (with_rows-append rows (next_row by field kind promise rows s) s.rows)
      ∙ find_put (has_no number) (λ r. no_before (next_number (with_leases rows s)) r.no) (next_row by field kind promise rows s) (with_rows rows s.rows) (other_no s.me ((s.given + length rows) + 1) number.server number.count s.given (omega arith) h)
      ∙ l.new number h;
  ready = subst IsReady (sym (lent-append by field kind promise rows s)) (record {
    server = record {
      few = l.ready.server.few;
      skew = l.ready.server.skew;
      term = l.ready.server.term;
      last = l.ready.server.last;
      given = fits;
      reaps = l.ready.server.reaps;
      txns = l.ready.server.txns;
      paths = l.ready.server.paths;
      numbers = given_next s.me (s.given + length rows) (next_row by field kind promise rows s) (with_rows rows s.rows) refl l.ready.server.numbers;
      whole = l.ready.server.whole;
    };
    table = t;
  });
}
