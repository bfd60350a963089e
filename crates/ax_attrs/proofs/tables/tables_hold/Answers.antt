use Rattle.std.proofs.Common.{◌≡◌, ◌&&◌, Bool, true, false, refl, subst, sym}
use Rattle.ax_attrs.specs.Entry.{IsTable}
use Rattle.ax_attrs.proofs.TableFacts.{events_table, keys_table, roles_table, states_table}
use Rattle.ax_attrs.proofs.tables.tables_hold.Goals as goal

all_hold : (a b c d : Bool) → a ≡ true → b ≡ true → c ≡ true → d ≡ true → (((a && b) && c) && d) ≡ true
all_hold true true true true _ _ _ _ = refl
all_hold true true true false _ _ _ wrong = absurd (cc wrong)
all_hold true true false d _ _ wrong _ = absurd (cc wrong)
all_hold true false c d _ wrong _ _ = absurd (cc wrong)
all_hold false b c d wrong _ _ _ = absurd (cc wrong)

pub returns-clause-answer : goal.returns-clause-answer
returns-clause-answer c =
    all_hold _ _ _ _
    (c.is_table-roles.ensures.1 (subst IsTable (sym c.role_list.ensures.rows) roles_table))
    (c.is_table-states.ensures.1 (subst IsTable (sym c.state_list.ensures.rows) states_table))
    (c.is_table-keys.ensures.1 (subst IsTable (sym c.key_list.ensures.rows) keys_table))
    (c.is_table-events.ensures.1 (subst IsTable (sym c.event_list.ensures.rows) events_table))

pub returns-clause-roles : goal.returns-clause-roles
returns-clause-roles c = roles_table

pub returns-clause-states : goal.returns-clause-states
returns-clause-states c = states_table

pub returns-clause-keys : goal.returns-clause-keys
returns-clause-keys c = keys_table

pub returns-clause-events : goal.returns-clause-events
returns-clause-events c = events_table
