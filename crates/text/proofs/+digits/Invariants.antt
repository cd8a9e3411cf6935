use Rattle.text.proofs.+digits.Given as goal

-- how many digits may come
abbrev pub decreases-digits : goal.decreases-digits
decreases-digits l = l.most
