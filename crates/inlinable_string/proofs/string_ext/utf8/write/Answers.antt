use Rattle.inlinable_string.proofs.Common.{◌≡◌, ◌+◌, ◌<◌, ◌++◌, length, take, arith, sym, subst, take_rest, length-take-le, IsUtf8-from_ascii}
use Rattle.inlinable_string.proofs.LossyText.{Written, at_start, char_front, run_room, fault_room, run_written, fault_written}
use Rattle.inlinable_string.proofs.string_ext.utf8.write.Goals as goal

pub loop-rest-init : goal.loop-rest-init
loop-rest-init c = at_start _ _

pub write_at-requires : goal.write_at-requires
write_at-requires c =
    let ascii = c.is_ascii.ensures.0 c.if-is_ascii.true in
    let room = run_room _ _ _ _ 8 c.loop-rest.invariant (omega arith) (IsUtf8-from_ascii _ ascii)
    (omega arith) in
    omega (arith, room, length-take-le 8 c.loop-rest.rest.now (omega arith))

pub loop-rest-preserved-then-is_ascii : goal.loop-rest-preserved-then-is_ascii
loop-rest-preserved-then-is_ascii c =
    let bytes = c.args.bytes.now in
    let rest = c.loop-rest.rest.now in
    let made = c.loop-rest.made in
    let new = c.write_at.new.cells in
    let end = c.loop-rest.end in
    let u = IsUtf8-from_ascii _ (c.is_ascii.ensures.0 c.if-is_ascii.true) in
    let room = run_room _ _ _ _ 8 c.loop-rest.invariant (omega arith) u (omega arith) in
    subst (λ rest. Written bytes rest new (end + 8)) (sym (take_rest rest 8))
    (run_written _ _ _ new _ 8 c.loop-rest.invariant u (omega (arith, room))
    (subst (λ n. take (end + n) new ≡ take end made ++ take 8 rest)
    (length-take-le 8 rest (omega arith)) c.write_at.ensures.text))

pub write_char-requires-clause-room : goal.write_char-requires-clause-room
write_char-requires-clause-room c =
    let len = c.in-Ok.ensures.len in
    run_room _ _ _ _ _ c.loop-rest-2.invariant (omega arith) (char_front _ _ len.0 len.1)
    c.in-Ok.ensures.within

pub write_replacement-requires : goal.write_replacement-requires
write_replacement-requires c =
    fault_room _ _ _ _ c.loop-rest-2.invariant (omega arith) c.in-Err.ensures.len.0
    (omega (arith, c.loop-rest-2-test.true))

pub loop-rest-2-preserved-in-Ok : goal.loop-rest-2-preserved-in-Ok
loop-rest-2-preserved-in-Ok c =
    let len = c.in-Ok.ensures.len in
    let bytes = c.args.bytes.now in
    let new = c.write_char.new.made in
    let u = char_front _ _ len.0 len.1 in
    let room = run_room _ _ _ _ _ c.loop-rest-2.invariant (omega arith) u
    c.in-Ok.ensures.within in
    subst (λ rest. Written bytes rest new (c.loop-rest-2.end + c.in-Ok.len))
    (sym (take_rest c.loop-rest-2.rest.now c.in-Ok.len))
    (run_written _ _ _ new _ _ c.loop-rest-2.invariant u (omega (arith, room))
    c.write_char.ensures)

pub loop-rest-2-preserved : goal.loop-rest-2-preserved
loop-rest-2-preserved c =
    let len = c.in-Err.ensures.len in
    let bytes = c.args.bytes.now in
    let new = c.write_replacement.new.made in
    let some : 0 < length c.loop-rest-2.rest.now = omega (arith, c.loop-rest-2-test.true) in
    let room = fault_room _ _ _ _ c.loop-rest-2.invariant (omega arith) len.0 some in
    subst (λ rest. Written bytes rest new (c.loop-rest-2.end + 3))
    (sym (take_rest c.loop-rest-2.rest.now c.in-Err.len))
    (fault_written _ _ _ new _ _ c.loop-rest-2.invariant len.0 len.1 some
    (omega (arith, room)) c.write_replacement.ensures)
