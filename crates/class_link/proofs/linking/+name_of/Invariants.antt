use Rattle.class_link.proofs.linking.+name_of.Given as goal

abbrev pub decreases-name_of : goal.decreases-name_of
decreases-name_of l = l.place
