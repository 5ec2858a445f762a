use Rattle.image_parts.proofs.spelled.put_start.Goals as goal

pub returns-then-version-eq1-clause-fit : goal.returns-then-version-eq1-clause-fit
returns-then-version-eq1-clause-fit c =
    let h = c.registers_fit.ensures.fit in
    let l = c.registers_fit.ensures.count in
    let p = c.in_ok-put_words.ensures.fit in
    record { pc = p.0; sp = p.1.0; count = l; first = h }
