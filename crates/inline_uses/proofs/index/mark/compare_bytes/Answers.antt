use Rattle.inline_uses.proofs.Names.{Equal, key_order, nat_list_cmp_total, rules, subst, sym, tied_itself, ◌≡◌}
use Rattle.inline_uses.proofs.index.mark.compare_bytes.Goals as goal

pub returns-then-eq : goal.returns-then-eq
returns-then-eq c =
    let known = c.args.known.now in
    let same : known ≡ c.args.bytes.now = search rules in
    subst (λ other. Equal ≡ key_order known other) same (sym (tied_itself nat_list_cmp_total known))
