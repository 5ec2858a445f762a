mod Cuts
